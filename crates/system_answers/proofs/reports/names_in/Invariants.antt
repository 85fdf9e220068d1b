use Rattle.std.proofs.Common.{◌≡◌, map, take}
use Rattle.system_answers.proofs.reports.names_in.Given as goal

abbrev pub invariant-loop-event : goal.invariant-loop-event
invariant-loop-event l = l.names ≡ map (λ event. event.name) (take l.event-index l.events)
