use Rattle.std.proofs.Common.{◌≡◌, take}
use Rattle.hazard_records.specs.Meaning.{event_keys}
use Rattle.hazard_records.proofs.keys.event_keys.Given as goal

abbrev pub invariant-loop-event : goal.invariant-loop-event
invariant-loop-event l = l.keys ≡ event_keys l.instance (take l.event-index l.events)
