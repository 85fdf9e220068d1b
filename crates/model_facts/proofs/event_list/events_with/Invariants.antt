use Rattle.std.proofs.Common.{[], take}
use Rattle.plain_values.specs.Numbered.{numbered_from}
use Rattle.model_facts.specs.Facts.{component_events}
use Rattle.model_facts.specs.Limits.{most_events}
use Rattle.model_facts.specs.inner.Steps.{Grows}
use Rattle.model_facts.proofs.event_list.events_with.Given as goal

abbrev pub invariant-loop-number : goal.invariant-loop-number
invariant-loop-number l = Grows most_events [] l.events (numbered_from (component_events l.assembly) 0 (take l.number l.assembly.instance.components))
