use Rattle.std.proofs.Common.{drop}
use Rattle.fmea_rows.proofs.TableLaws.{IsBackBut}
use Rattle.fmea_rows.proofs.change.take_back.Given as goal

abbrev pub invariant-loop-change : goal.invariant-loop-change
invariant-loop-change l = IsBackBut l.base (drop l.change-index l.changes) l.times
