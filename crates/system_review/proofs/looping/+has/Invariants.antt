use Rattle.std.proofs.Common.{◌≡◌, false, map, take}
use Rattle.std.specs.List.{list_any}
use Rattle.fault_system.specs.Truth.{occurs}
use Rattle.system_review.proofs.looping.+has.Given as goal

abbrev pub invariant-has_fact_in-loop-part : goal.invariant-has_fact_in-loop-part
invariant-has_fact_in-loop-part l = list_any (λ part. part) (map (occurs l.number) (take l.part-index l.parts)) ≡ false
