use Rattle.std.proofs.Common.{◌≡◌, take}
use Rattle.error_types.specs.inner.Rows.{row_of}
use Rattle.error_types.proofs.reach.row_of_types.Given as goal

abbrev pub invariant-loop-number : goal.invariant-loop-number
invariant-loop-number l = l.row ≡ row_of l.declarations (take l.number-index l.types)
