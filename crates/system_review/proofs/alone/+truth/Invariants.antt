use Rattle.std.proofs.Common.{◌≡◌, map, ◌+◌, ◌≤◌, drop}
use Rattle.fault_system.specs.Truth.{count_true, truth}
use Rattle.system_review.proofs.alone.+truth.Given as goal

abbrev pub invariant-are_true-loop-part : goal.invariant-are_true-loop-part
invariant-are_true-loop-part g l =
    (l.count ≤ l.part-index) × (l.count + count_true (map (truth (g.E.Numbers.set l.events) (g.S.Numbers.set l.facts)) (drop l.part-index l.parts)) ≡ count_true (map (truth (g.E.Numbers.set l.events) (g.S.Numbers.set l.facts)) l.parts))
