use Rattle.std.proofs.Common.{[], take}
use Rattle.plain_values.specs.Numbered.{numbered_from}
use Rattle.model_facts.specs.Facts.{component_facts}
use Rattle.model_facts.specs.Limits.{most_facts}
use Rattle.model_facts.specs.inner.Steps.{Grows}
use Rattle.model_facts.proofs.fact_list.facts_of.Given as goal

abbrev pub invariant-loop-number : goal.invariant-loop-number
invariant-loop-number l = Grows most_facts [] l.facts (numbered_from (component_facts l.assembly l.universe) 0 (take l.number l.assembly.instance.components))
