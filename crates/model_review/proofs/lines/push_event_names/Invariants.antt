use Rattle.std.proofs.Common.{◌≡◌, ◌++◌, take}
use Rattle.model_review.specs.Lines.{event_names}
use Rattle.model_review.proofs.lines.push_event_names.Given as goal

abbrev pub invariant-loop-event : goal.invariant-loop-event
invariant-loop-event l = l.text.items ≡ l.fn.text.items ++ event_names l.system (take l.event-index l.events)
