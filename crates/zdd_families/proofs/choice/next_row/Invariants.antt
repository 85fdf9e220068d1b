use Rattle.zdd_families.proofs.Tables.{IsHalfRow}
use Rattle.zdd_families.proofs.choice.next_row.Given as goal

abbrev pub invariant-loop-above : goal.invariant-loop-above
invariant-loop-above l = IsHalfRow l.most l.fn.store l.store l.run.part l.run.times l.low l.high l.above l.fn.row l.row

abbrev pub decreases-loop-above : goal.decreases-loop-above
decreases-loop-above l = l.above
