use Rattle.std.proofs.Common.{◌≡◌, map, take}
use Rattle.system_answers.proofs.drawn.rates_in.Given as goal

abbrev pub invariant-loop-event : goal.invariant-loop-event
invariant-loop-event l = l.rates ≡ map (λ event. event.rate) (take l.event-index l.events)
