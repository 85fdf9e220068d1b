-- What is remembered of items and of names.
use Rattle.std.proofs.Common.{ℕ, zero, suc, ◌+◌, ◌^◌, ◌<◌, ◌≤◌, ◌≡◌, Bool, true, false, ◌||◌, cond, max, List, [], ◌∷◌, ◌++◌, flat_map, length, option_to_list, slice_get, Option, Some, None, refl, sym, ap, ◌∙◌, subst, arith, append_assoc, append-nil, add-one}
use Rattle.std.specs.HashMap.{get}
use Rattle.std.specs.Prelude.{IfSome}
use Rattle.std.specs.List.{list_all}
use Rattle.std.proofs.lemmas.Bool.{and_from}
use Rattle.std.proofs.lemmas.Option.{none-some}
use Rattle.plain_values.specs.Order.{least, nearer}
use Rattle.aadl_syntax.specs.declared.error_model.TypeItem.{TypeItem}
use Rattle.aadl_syntax.specs.declared.error_model.TypeKind.{TypeKind}
use Rattle.aadl_syntax.specs.declared.error_model.TypeKind.TheVariants.{Plain, Alias, Set, SetAlias}
use Rattle.plain_values.specs.declared.refusal.Code.TheVariants.{UnknownType}
use Rattle.plain_values.specs.declared.refusal.Refusal.{Refusal}
use Rattle.plain_values.proofs.OrderLaws.{nearer-none, nearer-assoc}
use Rattle.plain_values.specs.Refusal.{place_of, refusal}
use Rattle.package_index.specs.inner.Tables.{same_pair}
use Rattle.error_libraries.specs.declared.id.ItemId.{ItemId}
use Rattle.error_types.specs.declared.memory.Memory.{Memory}
use Rattle.error_types.specs.declared.memory.Reached.{Reached}
use Rattle.error_libraries.specs.declared.scope.Scope.{Scope}
use Rattle.error_types.specs.declared.settle.Sum.{Sum}
use Rattle.error_types.specs.inner.Grounded.{grounded, is_stopped, name_first, name_leads_so, name_types, names_first}
use Rattle.error_libraries.specs.Libraries.{Table, is_type, item_at, library_scope, number_of}
use Rattle.error_types.specs.inner.Rows.{IsGathered, IsOfTarget, IsReached, IsSettled, IsSum, Remembers, Stay, either, is_type_item, row_of}
use Rattle.error_libraries.specs.Search.{named}
use Rattle.error_types.specs.Walk.{Need, needs_of, of_item, products_of, walk_from}
use Rattle.error_types.proofs.GroundLaws.{ground-more, ground-step, leads-more}
use Rattle.error_types.proofs.Grounds.{grounded-first, grounded-row}
use Rattle.error_types.proofs.TypeRows.{rows-joined}

kind-names : (kind : TypeKind) (b : Bool) → is_type kind ≡ b → cond b ([]) (needs_of true kind) ≡ needs_of false kind
kind-names (Plain base) true is = refl
kind-names (Plain base) false is = absurd (let e : true ≡ false = is in cc)
kind-names (Alias target) true is = absurd (let e : false ≡ true = is in cc)
kind-names (Alias target) false is = refl
kind-names (Set set) true is = absurd (let e : false ≡ true = is in cc)
kind-names (Set set) false is = refl
kind-names (SetAlias target) true is = absurd (let e : false ≡ true = is in cc)
kind-names (SetAlias target) false is = refl

-- the names by which an item names types
names-by : (item : Option TypeItem) (b : Bool) → is_type_item item ≡ b → cond b [] (of_item (needs_of true) item) ≡ of_item (needs_of false) item
names-by None true is = absurd (let e : false ≡ true = is in cc)
names-by None false is = refl
names-by (Some item) b is = kind-names item.kind b is

module _ (table : Table) where
  abbrev text : ItemId → Scope
  text id = library_scope table id.«package»

  ground-of : (depth : ℕ) (id : ItemId) → list_all (name_leads_so (grounded depth table) table (text id)) (of_item (needs_of true) (item_at table.libraries id)) ≡ true → grounded (depth + 1) table id ≡ true
  ground-of depth id all = ap (λ n. grounded n table id) (add-one depth) ∙ ground-step table depth id ∙ all

  -- an item whose names are settled is
  module _ (id : ItemId) (sum : Sum) (item : Option TypeItem) (at : item ≡ item_at table.libraries id) (is : IsSum table (text id) (option_to_list (number_of table id)) (of_item (needs_of true) item) sum) (few : sum.depth + 1 < 2 ^ 32) where
    deep : grounded (sum.depth + 1) table id ≡ true
    deep = ground-of sum.depth id (ap (λ i. list_all (name_leads_so (grounded sum.depth table) table (text id)) (of_item (needs_of true) i)) (sym at) ∙ is.deep)

    fewer : sum.depth + 1 ≤ 2 ^ 64
    fewer = omega (arith, few)

    first-is : nearer (least (of_item products_of item)) sum.first ≡ (walk_from true table id).first
    first-is =
        (λ i. nearer (least (of_item products_of (at i))) (is.first i)) ∙ ap (λ i. nearer (least (of_item products_of (item_at table.libraries id))) (names_first table (text id) (of_item (needs_of true) i))) at
        ∙ sym (grounded-first table (sum.depth + 1) id fewer deep)

    row-is : (b : Bool) → is_type_item item ≡ b → row_of table (option_to_list (number_of table id) ++ flat_map (name_types table (text id)) (cond b [] (of_item (needs_of true) item))) ≡ row_of table (walk_from false table id).types
    row-is b type =
        ap (λ needs. row_of table (option_to_list (number_of table id) ++ flat_map (name_types table (text id)) needs)) (names-by item b type ∙ ap (of_item (needs_of false)) at)
        ∙ sym (grounded-row table (sum.depth + 1) id fewer deep)

    pub settled-type : (rows : List (List Bool)) (reached : Reached) → is_type_item item ≡ true → slice_get rows reached.row ≡ Some (row_of table (option_to_list (number_of table id))) → reached.first ≡ nearer (least (of_item products_of item)) sum.first → reached.depth ≡ sum.depth + 1 → IsReached table rows id reached
    settled-type rows reached type row first depth = record {
      first = first ∙ first-is;
      row = row ∙ ap Some (ap (row_of table) (sym (append-nil (option_to_list (number_of table id)))) ∙ row-is true type);
      deep = λ _. ap (λ n. grounded n table id) depth ∙ deep;
      few = omega (arith, depth, few);
    }

    pub settled-other : (rows : List (List Bool)) (reached : Reached) → is_type_item item ≡ false → slice_get rows reached.row ≡ Some sum.row → reached.first ≡ nearer (least (of_item products_of item)) sum.first → reached.depth ≡ sum.depth + 1 → IsReached table rows id reached
    settled-other rows reached type row first depth = record {
      first = first ∙ first-is;
      row = row ∙ ap Some (is.row ∙ row-is false type);
      deep = λ _. ap (λ n. grounded n table id) depth ∙ deep;
      few = omega (arith, depth, few);
    }

-- ---- rows that stay

module _ {A : Type 0} where
  pub there-still : (xs ys : List A) (n : ℕ) (x : A) → slice_get xs n ≡ Some x → slice_get (xs ++ ys) n ≡ Some x
  there-still [] ys n x at = absurd (none-some x at)
  there-still (y ∷ xs) ys zero x at = at
  there-still (y ∷ xs) ys (suc n) x at = there-still xs ys n x at

  pub there-last : (xs : List A) (x : A) → slice_get (xs ++ x ∷ []) (length xs) ≡ Some x
  there-last [] x = refl
  there-last (y ∷ xs) x = there-last xs x

pub stay-more : (old new : List (List Bool)) (row : List Bool) → new ≡ old ++ row ∷ [] → Stay old new
stay-more old new row is number other at = ap (λ rows. slice_get rows number) is ∙ there-still old (row ∷ []) number other at

pub stay-same : (old new : List (List Bool)) → new ≡ old → Stay old new
stay-same old new is number other at = ap (λ rows. slice_get rows number) is ∙ at

module _ (table : Table) where
  pub reached-stay : (old new : List (List Bool)) (id : ItemId) (reached : Reached) → Stay old new → IsReached table old id reached → IsReached table new id reached
  reached-stay old new id reached stay is = record { first = is.first; row = stay reached.row _ is.row; deep = is.deep; few = is.few }

  pub remembers-stay : (memory later : Memory) → Stay memory.rows later.rows → get same_pair later.items ≡ get same_pair memory.items → Remembers table memory → Remembers table later
  remembers-stay memory later stay items is = record {
    types = record { types = λ number less. stay number _ (is.types.types number less); none = stay (length table.types) _ is.types.none };
    items = λ key reached known. reached-stay memory.rows later.rows (record { «package» = key.0; item = key.1 }) reached stay (is.items key reached (ap (λ table_of. table_of key) (sym items) ∙ known));
  }

  -- ---- what a settled item is to a name

  pub settled-target : (memory : Memory) (need : Need) (id : ItemId) (refused : Option Refusal) (reached : Reached) → Remembers table memory → is_stopped table need id ≡ false → IsSettled memory id refused reached → IsOfTarget table memory.rows need (Some id) refused reached
  settled-target memory need id refused reached is on settled =
      let known = is.items (id.«package», id.item) settled.known settled.there in
      subst (IsOfTarget table memory.rows need (Some id) refused) (sym settled.is)
      (record {
        first =
            ap (nearer refused) (known.first ∙ sym (ap (λ b. cond b (Some (refusal UnknownType (place_of need.reference.spot))) (walk_from true table id).first) on));
        row = known.row ∙ ap (λ types. Some (row_of table types)) (sym (ap (λ b. cond b [] (walk_from false table id).types) on));
        deep = ap (λ b. b || grounded settled.known.depth table id) on ∙ known.deep settled.deep;
        few = known.few;
      })

  -- ---- the sum of names

  module _ (scope : Scope) (start : List Bool) (whole : List Need) where
    -- what is left to add to a sum comes to the whole
    pub record Sums (sum : Sum) (needs : List Need) : Type 0 where
      pub first : nearer sum.first (names_first table scope needs) ≡ names_first table scope whole
      pub row : (types : List ℕ) → start ≡ row_of table types → (so_far : List ℕ) × (sum.row ≡ row_of table so_far) × (row_of table (so_far ++ flat_map (name_types table scope) needs) ≡ row_of table (types ++ flat_map (name_types table scope) whole))
      pub deep : (depth : ℕ) → sum.depth ≤ depth → list_all (name_leads_so (grounded depth table) table scope) needs ≡ true → list_all (name_leads_so (grounded depth table) table scope) whole ≡ true
      pub few : sum.depth < 2 ^ 32

    pub sums-none : (sum : Sum) → sum.first ≡ None → sum.row ≡ start → sum.depth ≡ 0 → Sums sum whole
    sums-none sum first row depth = record {
      first = ap (λ f. nearer f (names_first table scope whole)) first;
      row = λ types is. (types, row ∙ is, refl);
      deep = λ d few all. all;
      few = omega (arith, depth);
    }

    pub sums-end : (sum : Sum) (needs : List Need) → needs ≡ [] → Sums sum needs → (types : List ℕ) → start ≡ row_of table types → IsSum table scope types whole sum
    sums-end sum needs none sums types is =
        let (so_far, row, left) = sums.row types is in
        record {
          first = sym (nearer-none sum.first) ∙ ap (λ n. nearer sum.first (names_first table scope n)) (sym none) ∙ sums.first;
          row = row ∙ ap (row_of table) (sym (append-nil so_far)) ∙ ap (λ n. row_of table (so_far ++ flat_map (name_types table scope) n)) (sym none) ∙ left;
          deep = sums.deep sum.depth (omega arith) (ap (list_all (name_leads_so (grounded sum.depth table) table scope)) none);
          few = sums.few;
        }

    leads-deeper : (p q : ItemId → Bool) → ((id : ItemId) → p id ≡ true → q id ≡ true) → (need : Need) → name_leads_so p table scope need ≡ true → name_leads_so q table scope need ≡ true
    leads-deeper p q more need is = leads-more table p q more need (named table scope need.reference).target is

    pub sums-more : (rows : List (List Bool)) (sum later : Sum) (reached : Reached) (need : Need) (needs rest : List Need) → needs ≡ need ∷ rest → IsGathered table rows scope need reached
        → later.first ≡ nearer sum.first reached.first → ((row : List Bool) → slice_get rows reached.row ≡ Some row → length row ≡ length sum.row → later.row ≡ either sum.row row) → later.depth ≡ max sum.depth reached.depth → Sums sum needs → Sums later rest
    sums-more rows sum later reached need needs rest split is first row depth sums =
        let name = name_types table scope need in
        record {
          first =
              ap (λ f. nearer f (names_first table scope rest)) (first ∙ ap (nearer sum.first) is.first)
              ∙ nearer-assoc sum.first (name_first table scope need) (names_first table scope rest)
              ∙ ap (λ n. nearer sum.first (names_first table scope n)) (sym split) ∙ sums.first;
          row =
              λ types start_is.
              (let (so_far, now, left) = sums.row types start_is in (
                so_far ++ name,
                rows-joined table so_far name sum.row (row_of table name) later.row now refl (λ same. row (row_of table name) is.row same),
                ap (row_of table) (append_assoc so_far name (flat_map (name_types table scope) rest)) ∙ ap (λ n. row_of table (so_far ++ flat_map (name_types table scope) n)) (sym split) ∙ left,
              ));
          deep =
              λ d few all.
              (let low : sum.depth ≤ d = omega (arith, depth, few) in
              let high : reached.depth ≤ d = omega (arith, depth, few) in
              let here = leads-deeper (grounded reached.depth table) (grounded d table) (λ id g. ground-more table reached.depth d id high g) need is.deep in
              sums.deep d low (ap (list_all (name_leads_so (grounded d table) table scope)) split ∙ and_from (name_leads_so (grounded d table) table scope need) (list_all (name_leads_so (grounded d table) table scope) rest) here all));
          few = (let a = sums.few in let b = is.few in omega (arith, depth, a, b));
        }

  pub recalled : (memory : Memory) → Remembers table memory → (id : ItemId) (found : Option Reached) → found ≡ get same_pair memory.items (id.«package», id.item) → IfSome found (IsReached table memory.rows id)
  recalled memory is id None same = tt
  recalled memory is id (Some reached) same = is.items (id.«package», id.item) reached (sym same)
