use Rattle.std.proofs.Common.{map, take}
use Rattle.plain_values.specs.Numbered.{numbered_from}
use Rattle.model_facts.specs.Facts.{arrivals, event_in}
use Rattle.model_facts.specs.Limits.{most_events}
use Rattle.model_facts.specs.inner.Steps.{Grows}
use Rattle.model_facts.proofs.event_list.add_points.Given as goal

abbrev pub invariant-loop-number : goal.invariant-loop-number
invariant-loop-number l = Grows most_events l.fn.events l.events (numbered_from (λ number point. map (event_in l.owner) (arrivals l.linked l.owner number point)) 0 (take l.number l.points))
