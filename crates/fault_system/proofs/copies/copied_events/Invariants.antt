use Rattle.std.proofs.Common.{◌≡◌, take}
use Rattle.fault_system.proofs.copies.copied_events.Given as goal

abbrev pub invariant-loop-event : goal.invariant-loop-event
invariant-loop-event l = l.made ≡ take l.event-index l.events
