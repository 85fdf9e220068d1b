use Rattle.std.proofs.Common.{◌≡◌, length}
use Rattle.fmea_rows.proofs.passing.Passed.group.Given as goal

abbrev pub invariant-loop-event : goal.invariant-loop-event
invariant-loop-event l = length l.group ≡ l.size
