use Rattle.std.proofs.Common.{◌≡◌, ◌++◌, take}
use Rattle.fmea_rows.specs.inner.Columns.{column_rows}
use Rattle.fmea_rows.proofs.told.add_told.Given as goal

abbrev pub invariant-loop-column : goal.invariant-loop-column
invariant-loop-column l = l.rows ≡ l.fn.rows ++ column_rows l.base l.event (take l.column-index l.columns)
