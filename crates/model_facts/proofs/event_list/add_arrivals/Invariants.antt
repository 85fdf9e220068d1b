use Rattle.std.proofs.Common.{map, take}
use Rattle.model_facts.specs.Facts.{event_in}
use Rattle.model_facts.specs.Limits.{most_events}
use Rattle.model_facts.specs.inner.Steps.{Grows}
use Rattle.model_facts.specs.declared.keys.EventKind.TheVariants.{Arrival}
use Rattle.model_facts.proofs.event_list.add_arrivals.Given as goal

abbrev pub invariant-loop-number : goal.invariant-loop-number
invariant-loop-number l = Grows most_events l.fn.events l.events (map (λ number. event_in l.owner (Arrival l.point number)) (take l.number-index l.types))
