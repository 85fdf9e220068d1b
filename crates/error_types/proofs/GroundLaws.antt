-- What a walk from a grounded item comes to: what the item gives itself, and what the walks from those that it names come to.
use Rattle.std.proofs.Common.{ℕ, zero, suc, ◌^◌, ◌≤◌, ◌≡◌, inl, inr, Bool, true, false, ◌&&◌, ◌||◌, cond, List, [], ◌∷◌, fold, Option, Some, None, refl, sym, ap, ◌∙◌, subst, arith}
use Rattle.std.specs.Cmp.{first_so, second_so}
use Rattle.std.specs.List.{list_all}
use Rattle.std.proofs.lemmas.Bool.{and_parts, eqb-true, false≢true, or_cases}
use Rattle.std.proofs.Math.Nat.{le-suc_iff}
use Rattle.std.proofs.lemmas.List.Folds.{list_any-append}
use Rattle.aadl_syntax.specs.declared.error_model.TypeItem.{TypeItem}
use Rattle.aadl_syntax.specs.declared.error_model.TypeKind.{TypeKind}
use Rattle.aadl_syntax.specs.declared.error_model.TypeKind.TheVariants.{Plain, Alias, Set, SetAlias}
use Rattle.plain_values.specs.declared.refusal.Code.TheVariants.{CyclicType, UnknownType}
use Rattle.plain_values.specs.declared.refusal.Refusal.{Refusal}
use Rattle.plain_values.specs.Refusal.{place_of, refusal}
use Rattle.error_libraries.specs.declared.id.ItemId.{ItemId}
use Rattle.error_libraries.specs.declared.scope.Scope.{Scope}
use Rattle.error_types.specs.inner.Grounded.{grounded, is_stopped, leads_so, name_leads_so}
use Rattle.error_libraries.specs.Libraries.{Table, is_item_in, is_same_item, item_at, library_scope}
use Rattle.error_libraries.specs.Search.{named}
use Rattle.error_types.specs.Walk.{Need, Walk, arrived, at_item, follow, needs_of, no_walk, of_item, past_item, walk_from, walked, with_fault}

-- ---- items

same-item : (a b : ItemId) → is_same_item a b ≡ true → a ≡ b
same-item a b same =
    let home : a.«package» ≡ b.«package» = eqb-true a.«package» b.«package» (first_so _ _ same) in
    let place : a.item ≡ b.item = eqb-true a.item b.item (second_so _ _ same) in
    λ i. record { «package» = home i; item = place i }

of-kind : (through : Bool) (p : Need → Bool) (kind : TypeKind) → list_all p (needs_of true kind) ≡ true → list_all p (needs_of through kind) ≡ true
of-kind true p kind all = all
of-kind false p (Plain base) all = refl
of-kind false p (Alias target) all = all
of-kind false p (Set set) all = all
of-kind false p (SetAlias target) all = all

fewer-names : (through : Bool) (p : Need → Bool) (item : Option TypeItem) → list_all p (of_item (needs_of true) item) ≡ true → list_all p (of_item (needs_of through) item) ≡ true
fewer-names through p None all = refl
fewer-names through p (Some item) all = of-kind through p item.kind all

module _ (table : Table) where
  -- the names of an item
  abbrev names : Bool → ItemId → List Need
  names through id = of_item (needs_of through) (item_at table.libraries id)

  abbrev scope : ItemId → Scope
  scope id = library_scope table id.«package»

  -- ---- grounded items

  no-ground : (id : ItemId) → grounded 0 table id ≡ true → ⊥
  unfolding grounded
  no-ground id ground = false≢true ground

  pub ground-step : (n : ℕ) (id : ItemId) → grounded (suc n) table id ≡ list_all (name_leads_so (grounded n table) table (scope id)) (names true id)
  unfolding grounded
  ground-step n id = refl

  pub leads-more : (p q : ItemId → Bool) → ((id : ItemId) → p id ≡ true → q id ≡ true) → (need : Need) (target : Option ItemId) → leads_so p table need target ≡ true → leads_so q table need target ≡ true
  leads-more p q more need None is = refl
  leads-more p q more need (Some id) is = either (is_stopped table need id) is
    where
      either : (b : Bool) → (b || p id) ≡ true → (b || q id) ≡ true
      either true is = refl
      either false is = more id is

  all-more : (p q : ItemId → Bool) → ((id : ItemId) → p id ≡ true → q id ≡ true) → (text : Scope) (needs : List Need) → list_all (name_leads_so p table text) needs ≡ true → list_all (name_leads_so q table text) needs ≡ true
  all-more p q more text [] is = refl
  all-more p q more text (need ∷ needs) is =
      let both = and_parts (name_leads_so p table text need) (list_all (name_leads_so p table text) needs) is in
      ap (λ b. b && list_all (name_leads_so q table text) needs) (leads-more p q more need (named table text need.reference).target both.0) ∙ all-more p q more text needs both.1

  one-more : (n : ℕ) (id : ItemId) → grounded n table id ≡ true → grounded (suc n) table id ≡ true
  one-more zero id ground = absurd (no-ground id ground)
  one-more (suc n) id ground = ground-step (suc n) id ∙ all-more (grounded n table) (grounded (suc n) table) (one-more n) (scope id) (names true id) (sym (ground-step n id) ∙ ground)

  pub ground-more : (n m : ℕ) (id : ItemId) → n ≤ m → grounded n table id ≡ true → grounded m table id ≡ true
  ground-more n zero id less ground = let e : n ≡ 0 = omega (arith, less) in subst (λ k. grounded k table id ≡ true) e ground
  ground-more n (suc m) id less ground =
      elim ((le-suc_iff {m = n} {n = m}).0 less) [
        | inl few ↦ one-more m id (ground-more n m id few ground)
        | inr same ↦ subst (λ k. grounded k table id ≡ true) same ground
      ]

  -- ---- the way to an item

  -- each item on the way is farther from the ends than this one
  abbrev IsAbove : List ItemId → ItemId → Type 0
  IsAbove way id = (other : ItemId) → is_item_in way other ≡ true → (n : ℕ) → grounded (suc n) table other ≡ true → grounded n table id ≡ true

  not-on : (way : List ItemId) (id : ItemId) → IsAbove way id → is_item_in way id ≡ true → (n : ℕ) → grounded n table id ≡ true → ⊥
  not-on way id above there zero ground = no-ground id ground
  not-on way id above there (suc n) ground = not-on way id above there n (above id there n ground)

  lower : (id child : ItemId) → ((n : ℕ) → grounded (suc n) table id ≡ true → grounded n table child ≡ true) → (n : ℕ) → grounded n table id ≡ true → grounded n table child ≡ true
  lower id child down zero ground = absurd (no-ground id ground)
  lower id child down (suc n) ground = one-more n child (down n ground)

  child-above : (way : List ItemId) (id child : ItemId) → IsAbove way id → ((n : ℕ) → grounded (suc n) table id ≡ true → grounded n table child ≡ true) → IsAbove (id ∷ way) child
  child-above way id child above down other there n ground =
      elim (or_cases (is_same_item id other) (is_item_in way other) there) [
        | inl here ↦ down n (subst (λ x. grounded (suc n) table x ≡ true) (sym (same-item id other here)) ground)
        | inr later ↦ lower id child down n (above other later n ground)
      ]

  leads-to : (p : ItemId → Bool) (need : Need) (id : ItemId) (target : Option ItemId) → target ≡ Some id → is_stopped table need id ≡ false → leads_so p table need target ≡ true → p id ≡ true
  leads-to p need id target is on leads = sym (ap (λ b. b || p id) on) ∙ sym (ap (leads_so p table need) is) ∙ leads

  -- ---- what an item comes to

  module _ (through : Bool) {M : Type 0} (join : M → M → M) (none : M) (assoc : (a b c : M) → join (join a b) c ≡ join a (join b c)) (comm : (a b : M) → join a b ≡ join b a) (same : (a : M) → join a a ≡ a) (alone : (a : M) → join a none ≡ a)
      (value : Walk → M) (own : ItemId → M) (fault : Option Refusal → M) (at : (walk : Walk) (id : ItemId) → value (at_item through table walk id) ≡ join (value walk) (own id))
      (faulted : (walk : Walk) (refused : Option Refusal) → value (with_fault walk refused) ≡ join (value walk) (fault refused)) (passed : (walk : Walk) (id : ItemId) → value (past_item id walk) ≡ value walk) where
    abbrev pub of_target : (ItemId → M) → Need → Option ItemId → M
    of_target below need None = none
    of_target below need (Some id) = cond (is_stopped table need id) (fault (Some (refusal UnknownType (place_of need.reference.spot)))) (below id)

    abbrev pub of_name : (ItemId → M) → Scope → Need → M
    of_name below text need = join (fault (named table text need.reference).first) (of_target below need (named table text need.reference).target)

    abbrev pub of_names : (ItemId → M) → Scope → List Need → M
    of_names below text [] = none
    of_names below text (need ∷ needs) = join (of_name below text need) (of_names below text needs)

    abbrev deep : ℕ → ItemId → M
    deep zero id = none
    deep (suc n) id = join (own id) (of_names (deep n) (scope id) (names through id))

    target-agree : (p q : ItemId → Bool) (a b : ItemId → M) → ((id : ItemId) → p id ≡ true → q id ≡ true → a id ≡ b id) → (need : Need) (target : Option ItemId) → leads_so p table need target ≡ true → leads_so q table need target ≡ true → of_target a need target ≡ of_target b need target
    target-agree p q a b alike need None u v = refl
    target-agree p q a b alike need (Some id) u v = either (is_stopped table need id) u v
      where
        either : (s : Bool) → (s || p id) ≡ true → (s || q id) ≡ true → cond s (fault (Some (refusal UnknownType (place_of need.reference.spot)))) (a id) ≡ cond s (fault (Some (refusal UnknownType (place_of need.reference.spot)))) (b id)
        either true u v = refl
        either false u v = alike id u v

    names-agree : (p q : ItemId → Bool) (a b : ItemId → M) → ((id : ItemId) → p id ≡ true → q id ≡ true → a id ≡ b id) → (text : Scope) (needs : List Need)
        → list_all (name_leads_so p table text) needs ≡ true → list_all (name_leads_so q table text) needs ≡ true → of_names a text needs ≡ of_names b text needs
    names-agree p q a b alike text [] u v = refl
    names-agree p q a b alike text (need ∷ needs) u v =
        let first = and_parts (name_leads_so p table text need) (list_all (name_leads_so p table text) needs) u in
        let other = and_parts (name_leads_so q table text need) (list_all (name_leads_so q table text) needs) v in
        let one = target-agree p q a b alike need (named table text need.reference).target first.0 other.0 in
        let more = names-agree p q a b alike text needs first.1 other.1 in
        λ i. join (join (fault (named table text need.reference).first) (one i)) (more i)

    -- all names of an item lead on
    lead-on : (n : ℕ) (id : ItemId) → grounded (suc n) table id ≡ true → list_all (name_leads_so (grounded n table) table (scope id)) (names through id) ≡ true
    lead-on n id ground = fewer-names through (name_leads_so (grounded n table) table (scope id)) (item_at table.libraries id) (sym (ground-step n id) ∙ ground)

    deep-agree : (n m : ℕ) (id : ItemId) → grounded n table id ≡ true → grounded m table id ≡ true → deep n id ≡ deep m id
    deep-agree zero m id g h = absurd (no-ground id g)
    deep-agree (suc n) zero id g h = absurd (no-ground id h)
    deep-agree (suc n) (suc m) id g h = ap (join (own id)) (names-agree (grounded n table) (grounded m table) (deep n) (deep m) (deep-agree n m) (scope id) (names through id) (lead-on n id g) (lead-on m id h))

    -- ---- walks

    -- what a walk has come to includes what the items come to that it followed to their end
    abbrev Includes : Walk → Type 0
    Includes walk = (id : ItemId) (n : ℕ) → is_item_in walk.followed id ≡ true → grounded n table id ≡ true → join (value walk) (deep n id) ≡ value walk

    record Comes (before after : Walk) (more : M) : Type 0 where
      is : value after ≡ join (value before) more
      includes : Includes after

    grow : (v d x : M) → join v d ≡ v → join (join v x) d ≡ join v x
    grow v d x is = assoc v x d ∙ ap (join v) (comm x d) ∙ sym (assoc v d x) ∙ ap (λ w. join w x) is

    keeps : (before after : Walk) (x : M) → after.followed ≡ before.followed → value after ≡ join (value before) x → Includes before → Includes after
    keeps before after x followed is includes id n there ground =
        ap (λ v. join v (deep n id)) is ∙ grow (value before) (deep n id) x (includes id n (ap (λ ids. is_item_in ids id) (sym followed) ∙ there) ground) ∙ sym is

    both : (a b c : Walk) (x y : M) → Comes a b x → Comes b c y → Comes a c (join x y)
    both a b c x y first second = record { is = second.is ∙ ap (λ v. join v y) first.is ∙ assoc (value a) x y; includes = second.includes }

    by-fault : (walk : Walk) (refused : Option Refusal) → Includes walk → Comes walk (with_fault walk refused) (fault refused)
    by-fault walk refused includes = record { is = faulted walk refused; includes = keeps walk (with_fault walk refused) (fault refused) refl (faulted walk refused) includes }

    module _ (steps n : ℕ) (way : List ItemId) (on : (walk : Walk) (id : ItemId) → grounded n table id ≡ true → IsAbove way id → Includes walk → Comes walk (follow steps through table way walk id) (deep n id)) where
      abbrev n7 : Need → Option Refusal
      n7 need = Some (refusal UnknownType (place_of need.reference.spot))

      abbrev n8 : Need → Option Refusal
      n8 need = Some (refusal CyclicType (place_of need.reference.spot))

      at-target : (walk : Walk) (need : Need) (id : ItemId) (s f w : Bool) → is_stopped table need id ≡ s → is_item_in walk.followed id ≡ f → is_item_in way id ≡ w → (is_stopped table need id ≡ false → (grounded n table id ≡ true) × IsAbove way id) → Includes walk
          → Comes walk (cond s (with_fault walk (n7 need)) (cond f walk (cond w (with_fault walk (n8 need)) (follow steps through table way walk id)))) (cond s (fault (n7 need)) (deep n id))
      at-target walk need id true f w stopped done there ok includes = by-fault walk (n7 need) includes
      at-target walk need id false true w stopped done there ok includes = record { is = sym (includes id n done (ok stopped).0); includes = includes }
      at-target walk need id false false true stopped done there ok includes = absurd (not-on way id (ok stopped).1 there n (ok stopped).0)
      at-target walk need id false false false stopped done there ok includes = on walk id (ok stopped).0 (ok stopped).1 includes

      abbrev Leads : Need → Option ItemId → Type 0
      Leads need target = (id : ItemId) → target ≡ Some id → is_stopped table need id ≡ false → (grounded n table id ≡ true) × IsAbove way id

      by-target : (walk : Walk) (need : Need) (target : Option ItemId) → Leads need target → Includes walk → Comes walk (arrived (follow steps through table way) table way need walk target) (of_target (deep n) need target)
      by-target walk need None leads includes = record { is = sym (alone (value walk)); includes = includes }
      by-target walk need (Some id) leads includes = at-target walk need id (is_stopped table need id) (is_item_in walk.followed id) (is_item_in way id) refl refl refl (leads id refl) includes

      by-name : (walk : Walk) (text : Scope) (need : Need) → Leads need (named table text need.reference).target → Includes walk → Comes walk (walked (follow steps through table way) table way text walk need) (of_name (deep n) text need)
      by-name walk text need leads includes =
          let fault_first = (named table text need.reference).first in
          let noted = with_fault walk fault_first in
          let target = (named table text need.reference).target in
          let first = by-fault walk fault_first includes in
          both walk noted (arrived (follow steps through table way) table way need noted target) (fault fault_first) (of_target (deep n) need target) first (by-target noted need target leads first.includes)

    module _ (steps n : ℕ) (way : List ItemId) (id : ItemId) (ground : grounded (suc n) table id ≡ true) (above : IsAbove way id) (on : (walk : Walk) (child : ItemId) → grounded n table child ≡ true → IsAbove (id ∷ way) child → Includes walk → Comes walk (follow steps through table (id ∷ way) walk child) (deep n child)) where
      by-names : (walk : Walk) (needs : List Need) → ((m : ℕ) → grounded (suc m) table id ≡ true → list_all (name_leads_so (grounded m table) table (scope id)) needs ≡ true) → Includes walk
          → Comes walk (fold (walked (follow steps through table (id ∷ way)) table (id ∷ way) (scope id)) walk needs) (of_names (deep n) (scope id) needs)
      by-names walk [] all includes = record { is = sym (alone (value walk)); includes = includes }
      by-names walk (need ∷ needs) all includes =
          let target = (named table (scope id) need.reference).target in
          let here = λ (m : ℕ) (g : grounded (suc m) table id ≡ true). (and_parts (name_leads_so (grounded m table) table (scope id) need) (list_all (name_leads_so (grounded m table) table (scope id)) needs) (all m g)).0 in
          let later = λ (m : ℕ) (g : grounded (suc m) table id ≡ true). (and_parts (name_leads_so (grounded m table) table (scope id) need) (list_all (name_leads_so (grounded m table) table (scope id)) needs) (all m g)).1 in
          let next = walked (follow steps through table (id ∷ way)) table (id ∷ way) (scope id) walk need in
          let one =
          by-name steps n (id ∷ way) on walk (scope id) need
          (λ child is goes_on. (leads-to (grounded n table) need child target is goes_on (here n ground), child-above way id child above (λ m g. leads-to (grounded m table) need child target is goes_on (here m g)))) includes in
          both walk next (fold (walked (follow steps through table (id ∷ way)) table (id ∷ way) (scope id)) next needs) (of_name (deep n) (scope id) need) (of_names (deep n) (scope id) needs) one (by-names next needs later one.includes)

    step-of : (steps : ℕ) (way : List ItemId) (walk : Walk) (id : ItemId) → follow (suc steps) through table way walk id ≡ past_item id (fold (walked (follow steps through table (id ∷ way)) table (id ∷ way) (scope id)) (at_item through table walk id) (names through id))
    unfolding follow
    step-of steps way walk id = refl

    -- an item more is followed to its end
    ended : (n : ℕ) (before walk : Walk) (id : ItemId) → grounded n table id ≡ true → Comes before walk (deep n id) → Comes before (past_item id walk) (deep n id)
    ended n before walk id ground comes = record {
      is = passed walk id ∙ comes.is;
      includes =
          λ other m there deeper.
          ap (λ v. join v (deep m other)) (passed walk id)
          ∙ elim (or_cases (is_item_in walk.followed other) (is_item_in (id ∷ []) other) (sym (list_any-append (λ x. is_same_item x other) walk.followed (id ∷ [])) ∙ there)) [
            | inl before_it ↦ comes.includes other m before_it deeper
            | inr here ↦ (elim (or_cases (is_same_item id other) false here) [
              | inl it ↦
                  let is_it = same-item id other it in
                  let one : deep m other ≡ deep n id = deep-agree m n other deeper (subst (λ x. grounded n table x ≡ true) is_it ground) ∙ ap (deep n) (sym is_it) in
                  ap (join (value walk)) one ∙ ap (λ v. join v (deep n id)) comes.is ∙ assoc (value before) (deep n id) (deep n id) ∙ ap (join (value before)) (same (deep n id)) ∙ sym comes.is
              | inr neither ↦ absurd (false≢true neither)
            ])
          ]
          ∙ sym (passed walk id);
    }

    comes : (steps n : ℕ) (way : List ItemId) (walk : Walk) (id : ItemId) → n ≤ steps → grounded n table id ≡ true → IsAbove way id → Includes walk → Comes walk (follow steps through table way walk id) (deep n id)
    comes steps zero way walk id few ground above includes = absurd (no-ground id ground)
    comes zero (suc n) way walk id few ground above includes = absurd (omega (arith, few))
    comes (suc steps) (suc n) way walk id few ground above includes =
        let fewer : n ≤ steps = omega (arith, few) in
        let start = at_item through table walk id in
        let begun : Comes walk start (own id) = record { is = at walk id; includes = keeps walk start (own id) refl (at walk id) includes } in
        let end = fold (walked (follow steps through table (id ∷ way)) table (id ∷ way) (scope id)) start (names through id) in
        let all = by-names steps n way id ground above (λ next child g ab inc. comes steps n (id ∷ way) next child fewer g ab inc) start (names through id) (λ m g. lead-on m id g) begun.includes in
        let whole = both walk start end (own id) (of_names (deep n) (scope id) (names through id)) begun all in
        subst (λ last. Comes walk last (deep (suc n) id)) (sym (step-of steps way walk id)) (ended (suc n) walk end id ground whole)

    module _ (nothing : value no_walk ≡ none) where
      alone_left : (a : M) → join none a ≡ a
      alone_left a = comm none a ∙ alone a

      from-here : (n : ℕ) (id : ItemId) → n ≤ 2 ^ 64 → grounded n table id ≡ true → value (walk_from through table id) ≡ deep n id
      from-here n id few ground =
          (comes (2 ^ 64) n [] no_walk id few ground (λ other there. absurd (false≢true there)) (λ other m there. absurd (false≢true there))).is ∙ ap (λ v. join v (deep n id)) nothing ∙ alone_left (deep n id)

      -- what the walk from a grounded item comes to
      pub item-comes : (n : ℕ) (id : ItemId) → n ≤ 2 ^ 64 → grounded n table id ≡ true → value (walk_from through table id) ≡ join (own id) (of_names (λ other. value (walk_from through table other)) (scope id) (names through id))
      item-comes zero id few ground = absurd (no-ground id ground)
      item-comes (suc n) id few ground =
          let fewer : n ≤ 2 ^ 64 = omega (arith, few) in
          from-here (suc n) id few ground
          ∙ ap (join (own id)) (names-agree (grounded n table) (grounded n table) (deep n) (λ other. value (walk_from through table other)) (λ other g _. sym (from-here n other fewer g)) (scope id) (names through id) (lead-on n id ground) (lead-on n id ground))
