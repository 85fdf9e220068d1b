use Rattle.std.proofs.Common.{ℕ, ◌<◌, get_or}
use Rattle.fault_system.specs.declared.formula.EventInfo.{EventInfo}
use Rattle.fmea_rows.specs.inner.Text.{IsPlainField}
use Rattle.fmea_samples.proofs.names.events_are_plain.Given as goal

abbrev pub invariant-loop-event : goal.invariant-loop-event
invariant-loop-event l = (k : ℕ) (d : EventInfo) → k < l.event-index → IsPlainField (get_or l.events k d).name
