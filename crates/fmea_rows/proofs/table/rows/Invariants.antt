use Rattle.std.proofs.Common.{◌≡◌, ◌⊎◌, [], length}
use Rattle.std.specs.List.{flat_map}
use Rattle.plain_values.specs.Numbered.{numbers_below}
use Rattle.fmea_rows.specs.Rows.{event_rows}
use Rattle.fault_system.specs.Truth.{member}
use Rattle.fmea_rows.specs.inner.Columns.{AreColumns}
use Rattle.fmea_rows.specs.inner.Tables.{AreRowless, IsBetween, IsNone}
use Rattle.fmea_rows.proofs.table.rows.Given as goal

abbrev pub invariant-loop-event : goal.invariant-loop-event
invariant-loop-event l = record {
  rows : l.rows ≡ flat_map (event_rows l.system l.effects) (numbers_below l.event);
  between : IsBetween l.known.base l.event l.desk.times.items l.desk.marks.items;
  alone : IsNone (length l.system.events) l.desk.alone;
  passed : AreRowless l.system l.effects (member l.passed.rowless);
  told : (l.told.columns.items ≡ []) ⊎ AreColumns l.system l.effects l.told.columns.items;
}
