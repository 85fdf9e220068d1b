use Rattle.fault_system.specs.Rounds.{time_of}
use Rattle.fmea_rows.specs.inner.Columns.{AreSure}
use Rattle.fmea_rows.proofs.columns.sure_of.Given as goal

abbrev pub invariant-loop-number : goal.invariant-loop-number
invariant-loop-number l = AreSure l.system l.effect (time_of l.facts) (time_of l.events) l.sure
