use Rattle.std.proofs.Common.{◌≡◌, map, drop}
use Rattle.std.specs.List.{list_all}
use Rattle.fault_system.specs.Truth.{in_range}
use Rattle.fault_system.proofs.formula.+range.Given as goal

abbrev pub invariant-are_in_range-loop-part : goal.invariant-are_in_range-loop-part
invariant-are_in_range-loop-part l =
    list_all (λ part. part) (map (in_range l.facts l.events) (drop l.part-index l.parts)) ≡ list_all (λ part. part) (map (in_range l.facts l.events) l.parts)
