use Rattle.std.proofs.Common.{◌≡◌, ◌++◌, take}
use Rattle.fmea_rows.specs.inner.Tables.{changed_rows}
use Rattle.fmea_rows.proofs.table.add_changed.Given as goal

abbrev pub invariant-loop-change : goal.invariant-loop-change
invariant-loop-change l = l.rows ≡ l.fn.rows ++ changed_rows l.known l.event (take l.change-index l.changes)
