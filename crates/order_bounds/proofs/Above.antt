-- Where it is given up by the smallest sets, there are more cases than are looked at.
use Rattle.std.proofs.Common.{ℕ, ◌+◌, ◌<◌, ◌≤◌, ◌≡◌, true, ◌||◌, List, [], ◌∷◌, map, length, Contains, Some, inl, inr, refl, sym, ap, subst, ◌∙◌, arith}
use Rattle.std.specs.Prelude.{◌⊎◌, nat_le}
use Rattle.plain_values.specs.Rising.{RisesWithin}
use Rattle.fault_system.specs.Truth.{count_true, set_of}
use Rattle.fault_system.specs.Systems.{System}
use Rattle.fault_system.specs.CutSets.{IsEventSet}
use Rattle.fault_system.proofs.NumberSets.{RisesWithin-at}
use Rattle.zdd_store.specs.inner.Family.{Family, IsAntichain, covers, has, is_within}
use Rattle.zdd_families.proofs.Booleans.{same_test}
use Rattle.zdd_families.proofs.Covers.{covers_member, covers_more, member_covers}
use Rattle.zdd_families.proofs.Subsets.{within_from, within_has, within_self, within_trans}
use Rattle.cutset_engine.specs.inner.Families.{HasMinimalCutSets}
use Rattle.cutset_engine.proofs.CutSets.{has-set_of, leave, leave-has, leave-none, leave-within}
use Rattle.probabilities.specs.inner.Cofactors.{HasEventFrom, IsGivenUp}
use Rattle.target_probabilities.specs.Probability.{HasMoreCases, most_cases}
use Rattle.target_probabilities.proofs.Cases.{more_cases}
use Rattle.order_bounds.specs.Orders.{has_more, or_more}
use Rattle.order_bounds.specs.inner.Orders.{IsGivenUpAbove, IsLeftOut, covers_or_more}

module _ (system : System) (target most : ℕ) (family : Family) (exact : HasMinimalCutSets system target (Some most) family) (count : ℕ) (all : count ≡ length system.events) where
  -- each event of the family is one of the system
  below : (part : List ℕ) → Contains family part → (n : ℕ) → has part n ≡ true → n < count
  below part here n on =
      let rises : IsEventSet system part = ((exact part).0 here).0.0.0 in
      let few = (RisesWithin-at 0 (length system.events) part n rises (sym (has-set_of part n) ∙ on)).1 in
      omega (arith, few, all)

  none_from : HasEventFrom count family → ⊥
  none_from from =
      let few = below from.set from.member from.event from.stands in
      let without = from.without in
      omega (arith, few, without)

  -- another event makes no difference
  module _ (set : List ℕ) (event : ℕ) (without : count ≤ event) where
    same_in : (n : ℕ) → n < count → has set n ≡ has (leave event set) n
    same_in n few =
        same_test (has set n) (has (leave event set) n) (leave-has event set n (λ same. omega (arith, same, few, without)))
        (within_has (leave event set) set n (leave-within event set))

    same_covers : covers family set ≡ covers family (leave event set)
    same_covers =
        same_test (covers family set) (covers family (leave event set))
        (λ on.
        let c = member_covers family set on in
        covers_member family c.part (leave event set) c.member
        (within_from c.part (leave event set) (λ n here. sym (same_in n (below c.part c.member n here)) ∙ within_has c.part set n c.within here)))
        (covers_more family (leave event set) set (leave-within event set))

    same_marks : (low : ℕ) (events : List ℕ) → RisesWithin low count events → map (set_of set) events ≡ map (set_of (leave event set)) events
    same_marks low [] rises = refl
    same_marks low (n ∷ ns) rises =
        ap (λ b. b ∷ map (set_of set) ns) (sym (has-set_of set n) ∙ same_in n rises.1 ∙ has-set_of (leave event set) n)
        ∙ ap (λ bs. set_of (leave event set) n ∷ bs) (same_marks (n + 1) ns rises.2)

    same_condition : (events : List ℕ) → RisesWithin 0 count events → covers_or_more family most events set ≡ covers_or_more family most events (leave event set)
    same_condition events rises =
        ap (λ b. b || has_more most events set) same_covers
        ∙ ap (λ bs. covers family (leave event set) || nat_le (most + 1) (count_true bs)) (same_marks 0 events rises)

  module _ (events : List ℕ) (rises : RisesWithin 0 count events) where
    -- of a family of the second condition too, each event is one of the system
    none_above : (up : Family) → ((set : List ℕ) → covers up set ≡ covers_or_more family most events set) → IsAntichain up → HasEventFrom count up → ⊥
    none_above up covering apart from =
        let event = from.event in
        let set = from.set in
        let rest = leave event set in
        let here : covers up set ≡ true = covers_member up set set from.member (within_self set) in
        let there : covers up rest ≡ true = covering rest ∙ sym (same_condition set event from.without events rises) ∙ sym (covering set) ∙ here in
        let c = member_covers up rest there in
        let one : c.part ≡ set = apart c.part set c.member from.member (within_trans c.part rest set c.within (leave-within event set)) in
        leave-none event set (within_has set rest event (subst (λ part. is_within part rest ≡ true) one c.within) from.stands)

    above : (up : IsGivenUpAbove count most_cases (covers_or_more family most events)) → IsGivenUp count most_cases up.family → HasMoreCases most_cases (or_more (covers family) most events)
    above up (inl from) = absurd (none_above up.family up.covering up.apart from)
    above up (inr more) = more_cases up.family (or_more (covers family) most events) up.covering most_cases more

    pub more_left : IsLeftOut count most_cases family most events → HasMoreCases most_cases (covers family) ⊎ HasMoreCases most_cases (or_more (covers family) most events)
    more_left (inl (inl from)) = absurd (none_from from)
    more_left (inl (inr more)) = inl (more_cases family (covers family) (λ set. refl) most_cases more)
    more_left (inr up) = inr (above up up.given_up)
