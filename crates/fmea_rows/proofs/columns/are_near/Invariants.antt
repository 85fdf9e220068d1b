use Rattle.fault_system.specs.Rounds.{time_of}
use Rattle.fmea_rows.specs.inner.Columns.{AreNear}
use Rattle.fmea_rows.proofs.columns.are_near.Given as goal

abbrev pub invariant-loop-number : goal.invariant-loop-number
invariant-loop-number l = AreNear l.system (time_of l.facts) (time_of l.events) l.number
