use Rattle.std.proofs.Common.{◌≡◌, map, ◌+◌, ◌≤◌, drop}
use Rattle.std.specs.List.{list_all, list_any}
use Rattle.fault_system.specs.Truth.{count_true, set_of, truth}
use Rattle.derivations.specs.Steps.{facts_of}
use Rattle.derivations.proofs.given.+given.Given as goal

abbrev pub invariant-all_true-loop-part : goal.invariant-all_true-loop-part
invariant-all_true-loop-part l =
    let t = truth (set_of l.given.step.now.events) (facts_of l.given.steps.now l.given.step.now.uses) in
    list_all (λ part. part) (map t (drop l.part-index l.parts)) ≡ list_all (λ part. part) (map t l.parts)

abbrev pub invariant-any_true-loop-part : goal.invariant-any_true-loop-part
invariant-any_true-loop-part l =
    let t = truth (set_of l.given.step.now.events) (facts_of l.given.steps.now l.given.step.now.uses) in
    list_any (λ part. part) (map t (drop l.part-index l.parts)) ≡ list_any (λ part. part) (map t l.parts)

abbrev pub invariant-are_true-loop-part : goal.invariant-are_true-loop-part
invariant-are_true-loop-part l =
    let t = truth (set_of l.given.step.now.events) (facts_of l.given.steps.now l.given.step.now.uses) in
    (l.count ≤ l.part-index) × (l.count + count_true (map t (drop l.part-index l.parts)) ≡ count_true (map t l.parts))
