-- Families of one set, of sets that contain none of some parts, and of sets that have an event.
use Rattle.std.proofs.Common.{ℕ, ◌+◌, ◌≡◌, ◌<◌, ◌≤◌, Bool, false, true, not, cond, ◌||◌, List, [], ◌∷◌, ◌++◌, filter, length, min, take, Contains, Option, None, Some, inl, inr, ⊎_elim, refl, sym, ap, subst, ◌∙◌, arith}
use Rattle.std.specs.Prelude.{◌⊎◌, ◌↔◌, ◌==◌, IsTrue}
use Rattle.std.proofs.lemmas.Bool.{false≢true, false_from_ne_true}
use Rattle.plain_values.specs.Rising.{RisesWithin}
use Rattle.fault_system.specs.Systems.{System}
use Rattle.fault_system.specs.CutSets.{IsEventSet, IsMinimalCutSet}
use Rattle.fault_system.specs.Listings.{IsWithinOrder}
use Rattle.zdd_store.specs.inner.Family.{Family, branch, covers, has, is_within, least_number, least_of, sets_without, IsRising}
use Rattle.zdd_store.specs.inner.Store.{Families, IsIn, Keeps, family_at, family_of}
use Rattle.zdd_store.specs.declared.id.Id.{Id}
use Rattle.zdd_store.proofs.Orders.{contains_first, contains_none, contains_rest, first_or_rest}
use Rattle.zdd_families.specs.inner.Steps.{either}
use Rattle.zdd_families.proofs.Joins.{filter_member, member_filter}
use Rattle.zdd_families.proofs.Covers.{covers_member, member_covers}
use Rattle.zdd_families.proofs.Subsets.{within_has, within_self, within_from, has_first, has_cases, has_none}
use Rattle.cutset_engine.specs.inner.Families.{HasMinimalCutSets}
use Rattle.forbidden_sets.specs.inner.Families.{Gathers, HasOthers, HasThoseWith, IsOther}

-- ---- sets without some

not-true : (b : Bool) → not b ≡ true → b ≡ false
not-true false is = refl
not-true true is = absurd (false≢true is)

not-false : (b : Bool) → b ≡ false → not b ≡ true
not-false b is = ap not is

-- a set of a family is left exactly where it contains none of the others
pub left-to : (family others : Family) (set : List ℕ) → Contains (sets_without family others) set → Contains family set × (covers others set ≡ false)
unfolding sets_without
left-to family others set here = let r = member_filter (λ s. not (covers others s)) family set here in (r.0, not-true _ r.1)

pub left-from : (family others : Family) (set : List ℕ) → Contains family set → covers others set ≡ false → Contains (sets_without family others) set
unfolding sets_without
left-from family others set here none = filter_member (λ s. not (covers others s)) family set here (not-false _ none)

-- ---- one set

-- the numbers of a rising list are not below its bound
within-least : (low high : ℕ) (set : List ℕ) → low ≤ 4294967296 → high ≤ 4294967296 → RisesWithin low high set → low ≤ least_of set
unfolding least_of
within-least low high [] l top h = l
within-least low high (n ∷ ns) l top h =
    let rest : n + 1 ≤ least_of ns = within-least (n + 1) high ns (omega (arith, h.1)) top h.2 in omega (arith, h.0)

pub rises-rising : (low high : ℕ) (set : List ℕ) → high ≤ 4294967296 → RisesWithin low high set → IsRising set
unfolding IsRising
rises-rising low high [] top h = tt
rises-rising low high (n ∷ ns) top h =
    let rest : n + 1 ≤ least_of ns = within-least (n + 1) high ns (omega (arith, h.1)) top h.2 in (omega arith, rises-rising (n + 1) high ns top h.2)

-- the family of the set without a number
pub none-rises : (set : List ℕ) → length set ≡ 0 → (family : Family) → family ≡ [] ∷ [] → family ≡ set ∷ []
none-rises [] none family unit = unit
none-rises (n ∷ ns) none family unit = absurd (omega (arith, none))

pub rising-rest : (set rest : List ℕ) (first : ℕ) → set ≡ first ∷ rest → IsRising set → IsRising rest
unfolding IsRising
rising-rest set rest first is rising = (subst IsRising is rising).1

pub rising-first : (set rest : List ℕ) (first : ℕ) → set ≡ first ∷ rest → IsRising set → first < least_of rest
unfolding IsRising
rising-first set rest first is rising = (subst IsRising is rising).0

least-two : (first least : ℕ) → first < least → first < 4294967296 → first < min least 4294967296
least-two first least less few = omega (arith, less, few)

pub first-below : (first : ℕ) (rest : List ℕ) (family : Family) → family ≡ rest ∷ [] → first < least_of rest → first < 4294967296 → first < least_number family
unfolding least_number
first-below first rest family is less few = subst (λ f. first < least_number f) (sym is) (least-two first (least_of rest) less few)

least-most : (set : List ℕ) → least_of set ≤ 4294967296
unfolding least_of
least-most [] = omega arith
least-most (n ∷ ns) = let rest = least-most ns in omega (arith, rest)

pub first-few : (first : ℕ) (rest : List ℕ) → first < least_of rest → first < 4294967296
first-few first rest less = let most = least-most rest in omega (arith, less, most)

pub below-none : (first : ℕ) (family : Family) → family ≡ [] → first < 4294967296 → first < least_number family
unfolding least_number
below-none first family is few = subst (λ f. first < least_number f) (sym is) few

pub one-set : (first : ℕ) (set rest : List ℕ) (lo hi family : Family) → set ≡ first ∷ rest → lo ≡ [] → hi ≡ rest ∷ [] → family ≡ branch first lo hi → family ≡ set ∷ []
unfolding branch
one-set first set rest lo hi family is none one made = made ∙ ap (λ l. branch first l hi) none ∙ ap (λ h. branch first [] h) one ∙ ap (λ s. s ∷ []) (sym is)

-- ---- what contains one of some sets

covers-more : (sets : List (List ℕ)) (last set : List ℕ) → covers (sets ++ last ∷ []) set ≡ (covers sets set || covers (last ∷ []) set)
unfolding covers
covers-more [] last set = refl
covers-more (first ∷ sets) last set = ap (λ b. is_within first set || b) (covers-more sets last set) ∙ apart (is_within first set) (covers sets set) (covers (last ∷ []) set) where
  apart : (a b c : Bool) → (a || (b || c)) ≡ ((a || b) || c)
  apart true b c = refl
  apart false b c = refl

pub gathers-none : (store : Families) (id : Id) → Keeps store store → IsIn store id → family_of store id ≡ [] → Gathers store store [] id
gathers-none store id kept found none = record { kept = kept; found = found; covering = λ set. ap (λ f. covers f set) none }

pub gathers-more : (before mid one_made after : Families) (sets : List (List ℕ)) (set : List ℕ) (all one id : Id) → Gathers before mid sets all → Keeps mid one_made → Keeps before after
    → family_of one_made one ≡ set ∷ [] → IsIn after id → ((s : List ℕ) → covers (family_of after id) s ≡ either (family_of one_made all) (family_of one_made one) s) → Gathers before after (sets ++ set ∷ []) id
gathers-more before mid one_made after sets set all one id so_far kept kept_all is found covering = record {
  kept = kept_all;
  found = found;
  covering = λ s.
      covering s ∙ ap (λ f. covers f s || covers (family_of one_made one) s) (kept.same all.position so_far.found) ∙ ap (λ f. covers (family_of mid all) s || covers f s) is
      ∙ ap (λ b. b || covers (set ∷ []) s) (so_far.covering s) ∙ sym (covers-more sets set s);
}

-- ---- minimal cut sets

module _ (system : System) (target : ℕ) where
  pub others-left : (most : ℕ) (parts : List (List ℕ)) (sets all family : Family) → HasMinimalCutSets system target (Some most) sets → ((set : List ℕ) → covers all set ≡ covers parts set)
      → family ≡ sets_without sets all → HasOthers system target most parts family
  others-left most parts sets all family exact covering is set = (to, from) where
    to : Contains family set → IsMinimalCutSet system target set × IsOther parts most set
    to here =
        let left = left-to sets all set (subst (λ f. Contains f set) is here) in
        let cut = (exact set).0 left.0 in
        (cut.0, (sym (covering set) ∙ left.1, cut.1))

    from : IsMinimalCutSet system target set × IsOther parts most set → Contains family set
    from such = subst (λ f. Contains f set) (sym is) (left-from sets all set ((exact set).1 (such.0, such.1.1)) (covering set ∙ such.1.0))

  one-covers : (event : ℕ) (set : List ℕ) → has set event ≡ true → covers ((event ∷ []) ∷ []) set ≡ true
  one-covers event set here = covers_member ((event ∷ []) ∷ []) (event ∷ []) set (contains_first (event ∷ []) []) (within_from (event ∷ []) set (λ x at. ⊎_elim (λ same. subst (λ y. has set y ≡ true) same here) (λ none. absurd (has_none x none)) (has_cases event [] x at)))

  covers-one : (event : ℕ) (set : List ℕ) → covers ((event ∷ []) ∷ []) set ≡ true → has set event ≡ true
  covers-one event set some =
      let part = member_covers ((event ∷ []) ∷ []) set some in
      ⊎_elim (λ same. within_has part.part set event part.within (subst (λ p. has p event ≡ true) same (has_first event []))) (λ none. absurd (contains_none part.part none)) (first_or_rest (event ∷ []) [] part.part part.member)

  pub those-with : (event : ℕ) (all one others family : Family) → HasMinimalCutSets system target None all → one ≡ (event ∷ []) ∷ [] → others ≡ sets_without all one → family ≡ sets_without all others
      → ((part set : List ℕ) → IsMinimalCutSet system target part → IsMinimalCutSet system target set → is_within part set ≡ true → part ≡ set) → HasThoseWith system target event family
  those-with event all one others family exact single rest is apart set = (to, from) where
    in_others : Contains all set → has set event ≡ false → Contains others set
    in_others here none = subst (λ f. Contains f set) (sym rest) (left-from all one set here (false_from_ne_true _ (λ some. false≢true (sym none ∙ covers-one event set (subst (λ f. covers f set ≡ true) single some)))))

    left : Contains family set → Contains all set × (covers others set ≡ false)
    left here = left-to all others set (subst (λ f. Contains f set) is here)

    has_it : (b : Bool) → has set event ≡ b → Contains all set → covers others set ≡ false → has set event ≡ true
    has_it true so there none = so
    has_it false lacks there none = absurd (false≢true (sym none ∙ covers_member others set set (in_others there lacks) (within_self set)))

    to : Contains family set → IsMinimalCutSet system target set × IsTrue (has set event)
    to here = (((exact set).0 (left here).0).0, has_it (has set event) refl (left here).0 (left here).1)

    clash : IsMinimalCutSet system target set → has set event ≡ true → covers others set ≡ true → ⊥
    clash minimal so some =
        let part = member_covers others set some in
        let out = left-to all one part.part (subst (λ f. Contains f part.part) rest part.member) in
        let same = apart part.part set ((exact part.part).0 out.0).0 minimal part.within in
        false≢true (sym out.1 ∙ subst (λ f. covers f part.part ≡ true) (sym single) (one-covers event part.part (subst (λ s. has s event ≡ true) (sym same) so)))

    from : IsMinimalCutSet system target set × IsTrue (has set event) → Contains family set
    from such = subst (λ f. Contains f set) (sym is) (left-from all others set ((exact set).1 (such.0, tt)) (false_from_ne_true _ (clash such.0 such.1)))
