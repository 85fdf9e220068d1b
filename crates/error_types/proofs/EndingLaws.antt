-- What items end in, through aliases.
use Rattle.std.proofs.Common.{ℕ, zero, suc, ◌+◌, ◌-◌, ◌^◌, ◌<◌, ◌≤◌, ◌≡◌, true, List, [], ◌∷◌, Option, Some, None, option_and_then, refl, sym, ap, ◌∙◌, subst, arith}
use Rattle.std.specs.List.{list_any}
use Rattle.std.specs.Cmp.{first_so, second_so}
use Rattle.std.proofs.lemmas.Bool.{eqb-true, false≢true, or_cases}
use Rattle.std.proofs.Common.{inl, inr}
use Rattle.aadl_syntax.specs.declared.error_model.TypeItem.{TypeItem}
use Rattle.aadl_syntax.specs.declared.error_model.TypeKind.{TypeKind}
use Rattle.aadl_syntax.specs.declared.error_model.TypeKind.TheVariants.{Plain, Alias}
use Rattle.aadl_syntax.specs.declared.place.Ref.{Ref}
use Rattle.error_types.specs.declared.endings.End.{End}
use Rattle.error_types.specs.declared.endings.Turn.{Turn}
use Rattle.error_types.specs.declared.endings.Turn.TheVariants.{Ended, On}
use Rattle.error_libraries.specs.declared.id.ItemId.{ItemId}
use Rattle.error_libraries.specs.declared.scope.Scope.{Scope}
use Rattle.error_types.specs.inner.Endings.{EndsIn, IsWay, Leads, LeadsTo, TurnsBy, type_through}
use Rattle.error_libraries.specs.Libraries.{Table, item_at, library_scope, number_of}
use Rattle.error_libraries.specs.Search.{named}
use Rattle.error_libraries.specs.inner.Tables.{has_number}
use Rattle.error_types.specs.Types.{type_at, type_by, type_named}
use Rattle.error_types.proofs.HierarchyLaws.{named-step}

module _ (table : Table) where
  -- ---- by the declaration of an item

  is-of : (id : ItemId) (item : TypeItem) (kind : TypeKind) → item_at table.libraries id ≡ Some item → item.kind ≡ kind → (steps : ℕ) → type_through steps table id ≡ type_by (type_named steps table) table id kind
  is-of id item kind at is steps = ap (option_and_then (λ i. type_by (type_named steps table) table id i.kind)) at ∙ ap (type_by (type_named steps table) table id) is

  no-steps : (scope : Scope) (reference : Ref) → type_named 0 table scope reference ≡ None
  unfolding type_named
  no-steps scope reference = refl

  pub no-item : (id : ItemId) → item_at table.libraries id ≡ None → EndsIn table id (record { number = None; steps = 0 })
  no-item id none = record { few = omega arith; is = λ steps _. ap (option_and_then (λ i. type_by (type_named steps table) table id i.kind)) none }

  pub plain-item : (id : ItemId) (item : TypeItem) (base : Option Ref) → item_at table.libraries id ≡ Some item → item.kind ≡ Plain base → EndsIn table id (record { number = number_of table id; steps = 0 })
  plain-item id item base at is = record { few = omega arith; is = λ steps _. is-of id item (Plain base) at is steps }

  module _ (id : ItemId) (item : TypeItem) (target : Ref) (at : item_at table.libraries id ≡ Some item) (is : item.kind ≡ Alias target) where
    through : (steps : ℕ) → type_through (suc steps) table id ≡ type_at (type_named steps table) table (named table (library_scope table id.«package») target).target
    through steps = is-of id item (Alias target) at is (suc steps) ∙ named-step table (library_scope table id.«package») target (suc steps) steps refl

    none-yet : type_through 0 table id ≡ None
    none-yet = is-of id item (Alias target) at is 0 ∙ no-steps (library_scope table id.«package») target

    nothing : (named table (library_scope table id.«package») target).target ≡ None → (steps : ℕ) → type_through steps table id ≡ None
    nothing none zero = none-yet
    nothing none (suc steps) = through steps ∙ ap (type_at (type_named steps table) table) none

    pub alias-turns : (turn : Turn) → LeadsTo (named table (library_scope table id.«package») target).target turn → TurnsBy table id turn
    alias-turns (Ended end) leads = subst (EndsIn table id) (sym leads.1) (record { few = omega arith; is = λ steps _. nothing leads.0 steps })
    alias-turns (On next) leads = record { none = none-yet; more = λ steps. through steps ∙ ap (type_at (type_named steps table) table) leads }

  -- ---- a way that comes back

  abbrev NoneIn : ℕ → ItemId → Type 0
  NoneIn most id = (steps : ℕ) → steps ≤ most → type_through steps table id ≡ None

  none-before : (most : ℕ) (id next : ItemId) → Leads table id next → NoneIn most next → NoneIn (suc most) id
  none-before most id next leads none zero few = leads.none
  none-before most id next leads none (suc steps) few = leads.more steps ∙ none steps (omega (arith, few))

  fewer : (most : ℕ) (id : ItemId) → NoneIn (suc most) id → NoneIn most id
  fewer most id none steps few = none steps (omega (arith, few))

  is-item : (id other : ItemId) → has_number (id.«package», id.item) other ≡ true → other ≡ id
  is-item id other same =
      let home : other.«package» ≡ id.«package» = eqb-true other.«package» id.«package» (first_so _ _ same) in
      let place : other.item ≡ id.item = eqb-true other.item id.item (second_so _ _ same) in
      λ i. record { «package» = home i; item = place i }

  along : (most : ℕ) (way : List ItemId) (id found : ItemId) → IsWay table way id → NoneIn most id → list_any (has_number (found.«package», found.item)) way ≡ true → NoneIn (suc most) found
  along most [] id found way none there = absurd (false≢true there)
  along most (last ∷ others) id found way none there =
      let here = none-before most last id way.0 none in
      elim (or_cases (has_number (found.«package», found.item) last) (list_any (has_number (found.«package», found.item)) others) there) [
        | inl same ↦ subst (NoneIn (suc most)) (is-item found last same) here
        | inr later ↦ along most others last found way.1 (fewer most last here) later
      ]

  first-none : (way : List ItemId) (id found : ItemId) → IsWay table way id → list_any (has_number (found.«package», found.item)) way ≡ true → NoneIn 0 found
  first-none [] id found way there = absurd (false≢true there)
  first-none (last ∷ others) id found way there =
      elim (or_cases (has_number (found.«package», found.item) last) (list_any (has_number (found.«package», found.item)) others) there) [
        | inl same ↦
            let here : NoneIn 0 last = λ steps few. (let zero_steps : steps ≡ 0 = omega (arith, few) in ap (λ n. type_through n table last) zero_steps ∙ way.0.none) in
            subst (NoneIn 0) (is-item found last same) here
        | inr later ↦ first-none others last found way.1 later
      ]

  round : (most : ℕ) (way : List ItemId) (id : ItemId) → IsWay table way id → list_any (has_number (id.«package», id.item)) way ≡ true → NoneIn most id
  round zero way id is there = first-none way id id is there
  round (suc most) way id is there = along most way id id is (round most way id is there) there

  pub comes-back : (way : List ItemId) (id : ItemId) → IsWay table way id → list_any (has_number (id.«package», id.item)) way ≡ true → EndsIn table id (record { number = None; steps = 0 })
  comes-back way id is there = record { few = omega arith; is = λ steps _. round steps way id is there steps (omega arith) }

  -- ---- back along a way

  more-through : (id next : ItemId) (end more : End) → Leads table id next → EndsIn table next end → more.number ≡ end.number → more.steps ≡ end.steps + 1 → (steps : ℕ) → more.steps ≤ steps → type_through steps table id ≡ more.number
  more-through id next end more leads ends number steps zero many = absurd (let e = steps in omega (arith, e, many))
  more-through id next end more leads ends number steps (suc n) many = leads.more n ∙ ends.is n (let e = steps in omega (arith, e, many)) ∙ sym number

  pub one-back : (id next : ItemId) (end more : End) → Leads table id next → EndsIn table next end → more.number ≡ end.number → more.steps ≡ end.steps + 1 → more.steps < 2 ^ 32 → EndsIn table id more
  one-back id next end more leads ends number steps few = record { few = few; is = more-through id next end more leads ends number steps }

  -- what it ends in, by the most steps
  pub at-last : (id : ItemId) (end : End) → EndsIn table id end → type_through (2 ^ 64 - 1) table id ≡ end.number
  at-last id end ends = let few = ends.few in ends.is (2 ^ 64 - 1) (omega (arith, few))

  pub by-name : (scope : Scope) (reference : Ref) → type_named (2 ^ 64) table scope reference ≡ type_at (type_named (2 ^ 64 - 1) table) table (named table scope reference).target
  by-name scope reference = named-step table scope reference (2 ^ 64) (2 ^ 64 - 1) refl
