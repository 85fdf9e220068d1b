-- The status of a call that did not answer.
use Rattle.plain_values.specs.declared.refusal.Stop.{Stop}
use Rattle.plain_values.specs.declared.refusal.Stop.TheVariants as stop
use Rattle.fta_outside.specs.declared.error.WriteError.{WriteError}
use Rattle.fta_outside.specs.declared.error.WriteError.TheVariants as write
use Rattle.phases.specs.declared.status.Status.{Status}
use Rattle.phases.specs.declared.status.Status.TheVariants.{Refused, Memory, WriteFault}

-- a refusal stands as it is, and so does want of memory
abbrev pub status_of : Stop → Status
status_of (stop.Refused refusal) = Refused refusal
status_of stop.Memory = Memory

-- how a write stopped
abbrev pub status_of_write : WriteError → Status
status_of_write write.Failed = WriteFault
status_of_write write.Memory = Memory
