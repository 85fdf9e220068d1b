use Rattle.std.proofs.Common.{ℕ, take}
use Rattle.fault_system.specs.Truth.{Has, set_of}
use Rattle.fmea_rows.specs.inner.Tables.{FitsAround, IsTested, facts_of, tested_of}
use Rattle.fmea_rows.proofs.testing.fit_around.Given as goal

abbrev pub invariant-loop-change : goal.invariant-loop-change
invariant-loop-change l = record {
  tested : IsTested (tested_of l.run) l.mark l.marks;
  fit : (g : ℕ) → Has (set_of (facts_of (take l.change-index l.changes))) g → FitsAround (tested_of l.run) l.users g;
}
