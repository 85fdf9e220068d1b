use Rattle.std.proofs.Common.{All, take}
use Rattle.fmea_rows.specs.inner.Columns.{IsToldAt}
use Rattle.fmea_rows.proofs.told.are_told.Given as goal

abbrev pub invariant-loop-column : goal.invariant-loop-column
invariant-loop-column l = All (λ column. IsToldAt column l.event) (take l.column-index l.columns)
