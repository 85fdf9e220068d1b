use Rattle.std.proofs.Common.{◌≡◌}
use Rattle.error_types.specs.inner.Rows.{rows_so_far}
use Rattle.error_types.proofs.hierarchy.put_all.Given as goal

abbrev pub invariant-loop-low : goal.invariant-loop-low
invariant-loop-low l = l.rows ≡ rows_so_far l.bases l.low
