use Rattle.std.proofs.Common.{map, take}
use Rattle.std.specs.List.{list_any}
use Rattle.fault_system.specs.Truth.{occurs, occurs_event}
use Rattle.fault_system.specs.Rounds.{time_of}
use Rattle.fmea_rows.specs.inner.Columns.{AreAround}
use Rattle.fmea_rows.proofs.columns.+around.Given as goal

abbrev pub invariant-are_around-loop-part : goal.invariant-are_around-loop-part
invariant-are_around-loop-part l =
    AreAround (time_of l.facts) (time_of l.events) l.distance l.latest (λ n. list_any (λ part. part) (map (occurs n) (take l.part-index l.parts))) (λ n. list_any (λ part. part) (map (occurs_event n) (take l.part-index l.parts)))
