use Rattle.std.proofs.Common.{◌≡◌, filter, take}
use Rattle.model_review.specs.Told.{is_event_of}
use Rattle.model_review.proofs.told.events_of.Given as goal

abbrev pub invariant-loop-event : goal.invariant-loop-event
invariant-loop-event l = l.own ≡ filter (is_event_of l.system l.owner) (take l.event-index l.events)
