use Rattle.std.proofs.Common.{ℕ, suc, ◌+◌, ◌≡◌, Bool, List, true, if◌then◌else◌, drop, map, nat_le, leb-true, inl, inr, ⊎_elim, ap, subst, ◌∙◌, sym, arith}
use Rattle.std.specs.List.{list_any}
use Rattle.fault_system.specs.Truth.{count_true, set_of, truth}
use Rattle.fault_system.specs.declared.formula.Formula.{Formula}
use Rattle.fault_system.proofs.TruthLaws.{truth-AtLeast}
use Rattle.target_orders.specs.inner.Bounds.{IsTally, met_facts}
use Rattle.target_orders.proofs.BoundLaws.{all-at, any-end, any-next, count-end, count-next, counted-on}
use Rattle.target_orders.proofs.bounds.+bound.Goals as goal

pub bound_of-returns-in-AtLeast : goal.bound_of-returns-in-AtLeast
bound_of-returns-in-AtLeast t c set is_true =
    let events = set_of set in
    let facts = met_facts c.args.places.now c.args.bounds.now set in
    let least = c.in-AtLeast.least in
    let parts = c.items-in-AtLeast.result.now in
    let counted : nat_le least (count_true (map (truth events facts) parts)) ≡ truth events facts c.args.formula.now =
    ap (λ (ps : List Formula). nat_le least (count_true (map (truth events facts) ps))) c.items-in-AtLeast.ensures.items
    ∙ sym (ap (truth events facts) c.in-AtLeast.is ∙ truth-AtLeast events facts least c.in-AtLeast.parts) in
    c.of_tally.ensures c.args.places.now set (count_true (map (truth events facts) parts)) (c.tally_of.ensures set) (leb-true _ _ (counted ∙ is_true))

pub bound_of_all-loop-part-preserved : goal.bound_of_all-loop-part-preserved
bound_of_all-loop-part-preserved t c set all =
    let is_so = truth (set_of set) (met_facts c.args.places.now c.args.bounds.now set) in
    c.both-bound.ensures c.args.places.now set (c.loop-part.invariant set all)
    (c.bound_of.ensures set (all-at is_so c.args.parts.now c.loop-part.part-index c.part-item.result c.loop-part-test.true c.part-item.is all))

pub bound_of_any-loop-part-preserved : goal.bound_of_any-loop-part-preserved
bound_of_any-loop-part-preserved t c set some =
    let is_so = truth (set_of set) (met_facts c.args.places.now c.args.bounds.now set) in
    let i = c.loop-part.part-index in
    let next : i + 1 ≡ suc i = omega arith in
    ⊎_elim (λ met. inl (c.either-bound.ensures c.args.places.now set (inl met)))
    (λ left. ⊎_elim (λ here. inl (c.either-bound.ensures c.args.places.now set (inr (c.bound_of.ensures set here)))) (λ there. inr (subst (λ k. list_any (λ b. b) (map is_so (drop k c.args.parts.now)) ≡ true) (sym next) there))
    (any-next is_so c.args.parts.now c.loop-part.part-index c.part-item.result c.loop-part-test.true c.part-item.is left))
    (c.loop-part.invariant set some)

pub bound_of_any-returns : goal.bound_of_any-returns
bound_of_any-returns t c set some =
    let is_so = truth (set_of set) (met_facts c.args.places.now c.args.bounds.now set) in
    ⊎_elim (λ met. met) (λ left. absurd (any-end is_so c.args.parts.now c.loop-part.part-index (omega (arith, c.loop-part-test.false)) left)) (c.loop-part.invariant set some)

pub tally_of-loop-part-preserved : goal.tally_of-loop-part-preserved
tally_of-loop-part-preserved t c set =
    let is_so = truth (set_of set) (met_facts c.args.places.now c.args.bounds.now set) in
    let (count, is, sum) = c.loop-part.invariant set in
    let here : Bool = is_so c.part-item.result in
    let parts = c.args.parts.now in
    let i = c.loop-part.part-index in
    let next : i + 1 ≡ suc i = omega arith in (
      if here then count + 1 else count,
      c.more-tally.ensures c.args.places.now set count here is (λ h. c.bound_of.ensures set h),
      counted-on here count (count_true (map is_so (drop (i + 1) parts))) (count_true (map is_so parts)) (count_true (map is_so (drop i parts)))
          (subst (λ k. count_true (map is_so (drop i parts)) ≡ (if here then count_true (map is_so (drop k parts)) + 1 else count_true (map is_so (drop k parts)))) (sym next)
          (count-next is_so parts i c.part-item.result c.loop-part-test.true c.part-item.is)) sum,
    )

pub tally_of-returns : goal.tally_of-returns
tally_of-returns t c set =
    let is_so = truth (set_of set) (met_facts c.args.places.now c.args.bounds.now set) in
    let (count, is, sum) = c.loop-part.invariant set in
    let whole : count ≡ count_true (map is_so c.args.parts.now) = omega (arith, sum, count-end is_so c.args.parts.now c.loop-part.part-index (omega (arith, c.loop-part-test.false))) in
    subst (λ (n : ℕ). IsTally c.args.places.now set n c.loop-part.tally) whole is
