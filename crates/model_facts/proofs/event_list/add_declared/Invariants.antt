use Rattle.std.proofs.Common.{map}
use Rattle.plain_values.specs.Numbered.{numbers_below}
use Rattle.model_facts.specs.Facts.{event_in}
use Rattle.model_facts.specs.Limits.{most_events}
use Rattle.model_facts.specs.inner.Steps.{Grows}
use Rattle.model_facts.specs.declared.keys.EventKind.TheVariants.{Declared}
use Rattle.model_facts.proofs.event_list.add_declared.Given as goal

abbrev pub invariant-loop-event : goal.invariant-loop-event
invariant-loop-event l = Grows most_events l.fn.events l.events (map (λ event. event_in l.owner (Declared event)) (numbers_below l.event))
