-- The statuses, and the number with which the program ends at each.
use Rattle.std.specs.Prelude.{ℕ}
use Rattle.phases.specs.declared.status.Status.{Status}
use Rattle.phases.specs.declared.status.Status.TheVariants.{Done, Unmet, Usage, Refused, Constant, Unrated, StaleToken, ReadFault, WriteFault, ReportFault, Memory}

-- the exit number of a status
abbrev pub exit_number : Status → ℕ
exit_number Done = 0
exit_number Usage = 1
exit_number (Refused refusal) = 2
exit_number (Constant always) = 3
exit_number (StaleToken token input) = 2
exit_number (Unrated event) = 2
exit_number (ReadFault file) = 4
exit_number WriteFault = 5
exit_number (ReportFault report) = 6
exit_number Memory = 7
exit_number Unmet = 8
