-- Sets of one event each, of those on which a target depends that lie outside of a group.
use Rattle.std.proofs.Common.{ℕ, ◌+◌, ◌≡◌, ◌<◌, ◌≤◌, Bool, false, true, not, cond, List, [], ◌∷◌, ◌++◌, filter, map, length, Contains, Option, None, Some, inl, inr, ⊎_elim, refl, sym, ap, subst, ◌∙◌, arith}
use Rattle.std.specs.Prelude.{◌⊎◌, ◌^◌, min, unwrap_or, IsTrue}
use Rattle.std.specs.List.{AllByRecursion}
use Rattle.std.proofs.lemmas.Bool.{false≢true, false_from_ne_true}
use Rattle.plain_values.specs.Rising.{RisesWithin}
use Rattle.fault_system.specs.Truth.{Has, member, set_of}
use Rattle.fault_system.specs.Systems.{System, Holds}
use Rattle.fault_system.specs.CutSets.{IsMinimalCutSet, IsSubset, makes_hold}
use Rattle.fault_system.specs.Listings.{IsWithinOrder}
use Rattle.fault_system.proofs.CutSetLaws.{Holds-grows, makes_hold-exact}
use Rattle.fault_system.proofs.Elements.{In, In-contains, In-map, In-mapped, contains_In}
use Rattle.fault_system.proofs.NumberSets.{contained-in_set, set_of-contained}
use Rattle.backward_slice.specs.Slices.{IsSlice}
use Rattle.backward_slice.specs.declared.parts.Slice.{Slice}
use Rattle.zdd_store.specs.inner.Family.{covers, has, is_within, least_of, IsRising}
use Rattle.zdd_families.proofs.Joins.{filter_member, member_filter}
use Rattle.zdd_families.proofs.Covers.{covers_member, member_covers}
use Rattle.zdd_families.proofs.Subsets.{has_cases, has_first, has_none, within_from, within_has}
use Rattle.cutset_engine.proofs.CutSets.{has-set_of}
use Rattle.requirement_verdicts.specs.inner.Verdicts.{HasNoMinimal}
use Rattle.forbidden_sets.specs.inner.Families.{IsOther, single}
use Rattle.forbidden_sets.proofs.Firsts.{minimal-short}

-- the sets of one number each, of those that are not marked
abbrev pub singles-of : List Bool → List ℕ → List (List ℕ)
singles-of marks numbers = map single (filter (λ number. not (member marks number)) numbers)

-- ---- one number more

singles-next : (marks : List Bool) (numbers : List ℕ) (number : ℕ) → singles-of marks (numbers ++ number ∷ []) ≡ singles-of marks numbers ++ cond (not (member marks number)) (single number ∷ []) []
singles-next marks [] number = by (not (member marks number)) where
  by : (b : Bool) → map single (cond b (number ∷ []) []) ≡ cond b (single number ∷ []) []
  by true = refl
  by false = refl
singles-next marks (n ∷ numbers) number = by (not (member marks n)) (singles-next marks numbers number) where
  by : (b : Bool) → singles-of marks (numbers ++ number ∷ []) ≡ singles-of marks numbers ++ cond (not (member marks number)) (single number ∷ []) []
      → map single (cond b (n ∷ filter (λ m. not (member marks m)) (numbers ++ number ∷ [])) (filter (λ m. not (member marks m)) (numbers ++ number ∷ [])))
      ≡ map single (cond b (n ∷ filter (λ m. not (member marks m)) numbers) (filter (λ m. not (member marks m)) numbers)) ++ cond (not (member marks number)) (single number ∷ []) []
  by true rest = ap (λ sets. single n ∷ sets) rest
  by false rest = rest

pub singles-more : (marks : List Bool) (numbers : List ℕ) (number : ℕ) (before : List (List ℕ)) (set : List ℕ) (after : List (List ℕ)) → set ≡ single number → (has_it : Bool) → has_it ≡ member marks number
    → after ≡ before ++ cond (not has_it) (set ∷ []) [] → before ≡ singles-of marks numbers → after ≡ singles-of marks (numbers ++ number ∷ [])
singles-more marks numbers number before set after is has_it has_is added so_far =
    added ∙ ap (λ b. before ++ cond (not b) (set ∷ []) []) has_is ∙ ap (λ s. before ++ cond (not (member marks number)) (s ∷ []) []) is
    ∙ ap (λ sets. sets ++ cond (not (member marks number)) (single number ∷ []) []) so_far ∙ sym (singles-next marks numbers number)

-- ---- what they are

single-there : (marks : List Bool) (numbers : List ℕ) (n : ℕ) → Contains numbers n → member marks n ≡ false → Contains (singles-of marks numbers) (single n)
single-there marks numbers n here out = contains_In (single n) (singles-of marks numbers) (In-mapped single n (filter (λ m. not (member marks m)) numbers) (In-contains n _ (filter_member (λ m. not (member marks m)) numbers n here (ap not out))))

record Single (marks : List Bool) (numbers : List ℕ) (part : List ℕ) : Type 0 where
  pub number : ℕ
  pub is : single number ≡ part
  pub there : Contains numbers number
  pub out : member marks number ≡ false

not-true : (b : Bool) → not b ≡ true → b ≡ false
not-true false is = refl
not-true true is = absurd (false≢true is)

there-single : (marks : List Bool) (numbers : List ℕ) (part : List ℕ) → Contains (singles-of marks numbers) part → Single marks numbers part
there-single marks numbers part here =
    let mapped = In-map single part (filter (λ m. not (member marks m)) numbers) (In-contains part (singles-of marks numbers) here) in
    let kept = member_filter (λ m. not (member marks m)) numbers mapped.0 (contains_In mapped.0 _ mapped.1) in
    record { number = mapped.0; is = mapped.2; there = kept.0; out = not-true _ kept.1 }

singles-rising : (marks : List Bool) (low high : ℕ) (numbers : List ℕ) → high ≤ 4294967296 → RisesWithin low high numbers → AllByRecursion IsRising (singles-of marks numbers)
unfolding IsRising least_of
singles-rising marks low high [] few rises = tt
singles-rising marks low high (n ∷ numbers) few rises = by (not (member marks n)) (singles-rising marks (n + 1) high numbers few rises.2) where
  by : (b : Bool) → AllByRecursion IsRising (singles-of marks numbers) → AllByRecursion IsRising (map single (cond b (n ∷ filter (λ m. not (member marks m)) numbers) (filter (λ m. not (member marks m)) numbers)))
  by true rest = ((omega (arith, few, rises.1), tt), rest)
  by false rest = rest

pub singles-rise : (system : System) (marks : List Bool) (numbers : List ℕ) → length system.events < 2 ^ 32 → RisesWithin 0 (length system.events) numbers → AllByRecursion IsRising (singles-of marks numbers)
singles-rise system marks numbers few rises = singles-rising marks 0 (length system.events) numbers (omega (arith, few)) rises

-- ---- sets within a group

single-within : (n : ℕ) (set : List ℕ) → has set n ≡ true → is_within (single n) set ≡ true
single-within n set here = within_from (single n) set (λ x at. ⊎_elim (λ same. subst (λ y. has set y ≡ true) same here) (λ none. absurd (has_none x none)) (has_cases n [] x at))

-- no minimal cut set lies in a group under whose events the target does not hold
pub none-inside : (system : System) (target : ℕ) (group : List ℕ) (most : Option ℕ) (marks : List Bool) → ((n : ℕ) → member marks n ≡ set_of group n) → makes_hold system target (member marks) ≡ false
    → HasNoMinimal system target (λ set. IsSubset set group × IsWithinOrder most set)
none-inside system target group most marks same fails set minimal such =
    false≢true (sym fails ∙ (makes_hold-exact system target (member marks)).1 (Holds-grows system target (set_of set) (member marks) (λ n here. same n ∙ such.0 n here) target minimal.0.1))

module _ (system : System) (target : ℕ) (part : Slice) (group : List ℕ) (most : Option ℕ) (marks : List Bool) (outside : List (List ℕ)) (count order : ℕ) where
  within-order : (chosen : ℕ) (asked : Option ℕ) (set : List ℕ) → chosen ≡ unwrap_or asked count → length set ≤ min chosen count → IsWithinOrder asked set
  within-order chosen None set is short = tt
  within-order chosen (Some k) set is short = omega (arith, is, short)

  order-within : (chosen : ℕ) (asked : Option ℕ) (set : List ℕ) → chosen ≡ unwrap_or asked count → length set ≤ count → IsWithinOrder asked set → length set ≤ min chosen count
  order-within chosen None set is few short = omega (arith, is, few)
  order-within chosen (Some k) set is few short = omega (arith, is, few, short)

  pub inside-to : ((system : System) (target : ℕ) (slice : Slice) (set : List ℕ) → IsSlice system target slice → IsMinimalCutSet system target set → IsTrue (is_within set slice.events)) → IsSlice system target part
      → ((n : ℕ) → member marks n ≡ set_of group n) → outside ≡ singles-of marks part.events → (chosen : ℕ) → chosen ≡ unwrap_or most count → order ≡ min chosen count
      → (set : List ℕ) → IsMinimalCutSet system target set → IsOther outside order set → IsSubset set group × IsWithinOrder most set
  inside-to law slice same out chosen chosen_is order_is set minimal such = (inside, within-order chosen most set chosen_is (subst (λ k. length set ≤ k) order_is such.1)) where
    there : (n : ℕ) → has set n ≡ true → Contains part.events n
    there n here = set_of-contained part.events n (sym (has-set_of part.events n) ∙ within_has set part.events n (law system target part set slice minimal) here)

    by : (n : ℕ) → has set n ≡ true → (b : Bool) → member marks n ≡ b → member marks n ≡ true
    by n here true is = is
    by n here false is = absurd (false≢true (sym such.0 ∙ covers_member outside (single n) set (subst (λ sets. Contains sets (single n)) (sym out) (single-there marks part.events n (there n here) is)) (single-within n set here)))

    inside : IsSubset set group
    inside n here = let at : has set n ≡ true = has-set_of set n ∙ here in sym (same n) ∙ by n at (member marks n) refl

  pub inside-back : count ≡ length system.events → ((n : ℕ) → member marks n ≡ set_of group n) → outside ≡ singles-of marks part.events → (chosen : ℕ) → chosen ≡ unwrap_or most count → order ≡ min chosen count
      → (set : List ℕ) → IsMinimalCutSet system target set → IsSubset set group × IsWithinOrder most set → IsOther outside order set
  inside-back all same out chosen chosen_is order_is set minimal such =
      (false_from_ne_true _ clash, subst (λ k. length set ≤ k) (sym order_is) (order-within chosen most set chosen_is few such.1)) where
        few : length set ≤ count
        few = let short = minimal-short system target set minimal in omega (arith, short, all)

        clash : covers outside set ≡ true → ⊥
        clash some =
            let one = member_covers outside set some in
            let its = there-single marks part.events one.part (subst (λ sets. Contains sets one.part) out one.member) in
            let at : has set its.number ≡ true = within_has one.part set its.number one.within (subst (λ s. has s its.number ≡ true) its.is (has_first its.number [])) in
            false≢true (sym its.out ∙ same its.number ∙ such.0 its.number (sym (has-set_of set its.number) ∙ at))
