use Rattle.std.proofs.Common.{◌≡◌, ◌++◌, take}
use Rattle.fmea_rows.specs.inner.Tables.{table_rows}
use Rattle.fmea_rows.proofs.table.add_reached.Given as goal

abbrev pub invariant-loop-effect : goal.invariant-loop-effect
invariant-loop-effect l = l.rows ≡ l.fn.rows ++ table_rows l.base l.times l.event (take l.effect-index l.effects)
