use Rattle.std.proofs.Common.{◌-◌, length}
use Rattle.error_types.proofs.WalkedRows.{Walked}
use Rattle.error_types.proofs.hierarchy.put_along.Given as goal

abbrev pub invariant-loop : goal.invariant-loop
invariant-loop l = Walked l.bases l.fn.low (length l.bases - l.counter) l.high l.rows
