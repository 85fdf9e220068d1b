use Rattle.std.proofs.Common.{drop}
use Rattle.plain_values.specs.Rising.{RisesWithin}
use Rattle.fmea_rows.specs.inner.Tables.{facts_of}
use Rattle.fmea_rows.proofs.change.are_rising.Given as goal

abbrev pub invariant-loop-change : goal.invariant-loop-change
invariant-loop-change l = RisesWithin l.low l.count (facts_of (drop l.change-index l.changes)) → RisesWithin 0 l.count (facts_of l.changes)
