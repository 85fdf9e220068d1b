use Rattle.std.proofs.Common.{◌≡◌, ◌+◌, [], length}
use Rattle.zdd_families.specs.inner.Rows.{IsRow}
use Rattle.zdd_families.proofs.choice.first_row.Given as goal

abbrev pub invariant-loop-filled : goal.invariant-loop-filled
invariant-loop-filled l = record {
  long : length l.row.items ≡ l.filled + 1;
  row : IsRow 0 l.most l.store [] l.row.items;
}
