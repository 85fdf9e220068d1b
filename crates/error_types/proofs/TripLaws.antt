-- The steps of a walk through items.
use Rattle.std.proofs.Common.{ℕ, suc, ◌+◌, ◌-◌, ◌^◌, ◌<◌, ◌≡◌, Bool, true, false, ◌&&◌, cond, List, [], ◌∷◌, ◌++◌, length, fold, Option, Some, None, option_to_list, refl, sym, ap, ◌∙◌, arith}
use Rattle.plain_values.specs.Order.{least}
use Rattle.plain_values.specs.declared.refusal.Code.TheVariants.{CyclicType, UnknownType}
use Rattle.plain_values.specs.declared.refusal.Refusal.{Refusal}
use Rattle.plain_values.specs.Refusal.{place_of, refusal}
use Rattle.error_libraries.specs.declared.id.ItemId.{ItemId}
use Rattle.error_libraries.specs.declared.scope.Scope.{Scope}
use Rattle.error_libraries.specs.Libraries.{Table, is_item_in, item_at, library_scope}
use Rattle.error_libraries.specs.Search.{named}
use Rattle.error_types.specs.inner.Trip.{Trip, Visit, arrival, at_visit, items_on, noting, walk_left, walk_so_far, walked_out, with_names}
use Rattle.error_types.specs.Walk.{Need, Walk, arrived, at_item, follow, is_set_item, needs_of, no_walk, number_met, of_item, past_item, products_of, walk_from, walked, with_fault}

module _ (through : Bool) (table : Table) where
  -- ---- one item

  abbrev through-item : ℕ → List ItemId → Walk → ItemId → Walk
  through-item steps way walk id = past_item id (fold (walked (follow steps through table way) table way (library_scope table id.«package»)) (at_item through table walk id) (of_item (needs_of through) (item_at table.libraries id)))

  one-step : (steps one : ℕ) (way : List ItemId) (walk : Walk) (id : ItemId) → steps ≡ suc one → follow steps through table way walk id ≡ through-item one (id ∷ way) walk id
  unfolding follow
  one-step steps one way walk id more = ap (λ n. follow n through table way walk id) more

  -- ---- a name

  module _ (trip : Trip) (need : Need) where
    abbrev scope : Scope
    scope = library_scope table trip.top.item.«package»

    abbrev way : List ItemId
    way = items_on (trip.top ∷ trip.below)

    abbrev on : Walk → ItemId → Walk
    on = follow (2 ^ 64 - (length trip.below + 1)) through table way

    -- what follows once a name was walked
    abbrev after : Walk → Walk
    after walk = walked_out through table trip.below (past_item trip.top.item (fold (walked on table way scope) walk trip.top.rest))

    pub means-none : (target : Option ItemId) → target ≡ (named table scope need.reference).target → target ≡ None
        → walk_left through table (noting (named table scope need.reference).first trip) ≡ walk_left through table (with_names (need ∷ trip.top.rest) trip)
    means-none target is none = ap (λ t. after (arrived on table way need (with_fault (walk_so_far trip) (named table scope need.reference).first) t)) (sym none ∙ is)

    pub means-item : (id : ItemId) (target : Option ItemId) → target ≡ (named table scope need.reference).target → target ≡ Some id
        → arrival through table need (noting (named table scope need.reference).first trip) id ≡ walk_left through table (with_names (need ∷ trip.top.rest) trip)
    means-item id target is some = ap (λ t. after (arrived on table way need (with_fault (walk_so_far trip) (named table scope need.reference).first) t)) (sym some ∙ is)

    module _ (id : ItemId) where
      -- what comes of a set where a type is needed
      n7 : Walk
      n7 = with_fault (walk_so_far trip) (Some (refusal UnknownType (place_of need.reference.spot)))

      pub is-set : (need.of_type && is_set_item (item_at table.libraries id)) ≡ true → walk_left through table (noting (Some (refusal UnknownType (place_of need.reference.spot))) trip) ≡ arrival through table need trip id
      is-set set =
          ap (λ b. after (cond b (with_fault (walk_so_far trip) (Some (refusal UnknownType (place_of need.reference.spot)))) (cond (is_item_in trip.followed id) (walk_so_far trip) (cond (is_item_in way id) (with_fault (walk_so_far trip) (Some (refusal CyclicType (place_of need.reference.spot)))) (on (walk_so_far trip) id))))) (sym set)

      module _ (kind : (need.of_type && is_set_item (item_at table.libraries id)) ≡ false) where
        kindly : arrival through table need trip id ≡ after (cond (is_item_in trip.followed id) (walk_so_far trip) (cond (is_item_in way id) (with_fault (walk_so_far trip) (Some (refusal CyclicType (place_of need.reference.spot)))) (on (walk_so_far trip) id)))
        kindly =
            ap (λ b. after (cond b (with_fault (walk_so_far trip) (Some (refusal UnknownType (place_of need.reference.spot)))) (cond (is_item_in trip.followed id) (walk_so_far trip) (cond (is_item_in way id) (with_fault (walk_so_far trip) (Some (refusal CyclicType (place_of need.reference.spot)))) (on (walk_so_far trip) id))))) kind

        pub was-followed : is_item_in trip.followed id ≡ true → walk_left through table trip ≡ arrival through table need trip id
        was-followed done =
            sym (kindly ∙ ap (λ b. after (cond b (walk_so_far trip) (cond (is_item_in way id) (with_fault (walk_so_far trip) (Some (refusal CyclicType (place_of need.reference.spot)))) (on (walk_so_far trip) id)))) done)

        module _ (new : is_item_in trip.followed id ≡ false) where
          newly : arrival through table need trip id ≡ after (cond (is_item_in way id) (with_fault (walk_so_far trip) (Some (refusal CyclicType (place_of need.reference.spot)))) (on (walk_so_far trip) id))
          newly = kindly ∙ ap (λ b. after (cond b (walk_so_far trip) (cond (is_item_in way id) (with_fault (walk_so_far trip) (Some (refusal CyclicType (place_of need.reference.spot)))) (on (walk_so_far trip) id)))) new

          pub is-on-way : is_item_in way id ≡ true → walk_left through table (noting (Some (refusal CyclicType (place_of need.reference.spot))) trip) ≡ arrival through table need trip id
          is-on-way is = sym (newly ∙ ap (λ b. after (cond b (with_fault (walk_so_far trip) (Some (refusal CyclicType (place_of need.reference.spot)))) (on (walk_so_far trip) id))) is)

          module _ (apart : is_item_in way id ≡ false) (few : length trip.below < 2 ^ 32) where
            abbrev deeper : ℕ
            deeper = 2 ^ 64 - (length (trip.top ∷ trip.below) + 1)

            entered : on (walk_so_far trip) id ≡ through-item deeper (id ∷ way) (walk_so_far trip) id
            entered =
                let more : 2 ^ 64 - (length trip.below + 1) ≡ suc deeper = omega (arith, few) in
                one-step (2 ^ 64 - (length trip.below + 1)) deeper way (walk_so_far trip) id more

            pub enters : walk_left through table (at_visit trip id (of_item (needs_of through) (item_at table.libraries id)) (number_met through table id) (least (of_item products_of (item_at table.libraries id)))) ≡ arrival through table need trip id
            enters =
                sym
                (
                newly ∙ ap (λ b. after (cond b (with_fault (walk_so_far trip) (Some (refusal CyclicType (place_of need.reference.spot)))) (on (walk_so_far trip) id))) apart
                ∙ ap after entered
                )

  -- ---- back

  pub back-at : (trip : Trip) (top : Visit) (below : List Visit) (followed : List ItemId) (types : List ℕ) (first : Option Refusal) → trip.top.rest ≡ [] → trip.below ≡ top ∷ below → followed ≡ trip.followed ++ trip.top.item ∷ [] → types ≡ trip.types → first ≡ trip.first
      → walk_left through table (record { top = top; below = below; followed = followed; types = types; first = first }) ≡ walk_left through table trip
  back-at trip top below followed types first none is f t n =
      (λ i. walked_out through table (top ∷ below) (record { followed = f i; types = t i; first = n i }))
      ∙ (λ i. walked_out through table (sym is i) (past_item trip.top.item (fold (walked (follow (2 ^ 64 - (length trip.below + 1)) through table (items_on (trip.top ∷ trip.below))) table (items_on (trip.top ∷ trip.below)) (library_scope table trip.top.item.«package»)) (walk_so_far trip) (sym none i))))

  pub back-home : (trip : Trip) → trip.top.rest ≡ [] → trip.below ≡ [] → walk_left through table trip ≡ past_item trip.top.item (walk_so_far trip)
  back-home trip none is =
      λ i. walked_out through table (is i) (past_item trip.top.item (fold (walked (follow (2 ^ 64 - (length trip.below + 1)) through table (items_on (trip.top ∷ trip.below))) table (items_on (trip.top ∷ trip.below)) (library_scope table trip.top.item.«package»)) (walk_so_far trip) (none i)))

  -- ---- the beginning

  pub starts : (id : ItemId) → walk_left through table (record { top = record { item = id; rest = of_item (needs_of through) (item_at table.libraries id) }; below = []; followed = []; types = option_to_list (number_met through table id); first = least (of_item products_of (item_at table.libraries id)) }) ≡ walk_from through table id
  starts id = sym (one-step (2 ^ 64) (2 ^ 64 - 1) [] no_walk id refl)
