use Rattle.std.proofs.Common.{take}
use Rattle.fault_system.specs.Truth.{set_of}
use Rattle.fmea_rows.specs.inner.Tables.{AllFit, IsTested, tested_of}
use Rattle.fmea_rows.proofs.testing.all_fit.Given as goal

abbrev pub invariant-loop-fact : goal.invariant-loop-fact
invariant-loop-fact l = record {
  tested : IsTested (tested_of l.run) l.mark l.marks;
  fit : AllFit (tested_of l.run) (set_of (take l.fact-index l.facts));
}
