use Rattle.std.proofs.Common.{map}
use Rattle.plain_values.specs.Numbered.{numbers_below}
use Rattle.model_facts.specs.Facts.{fact_in}
use Rattle.model_facts.specs.Limits.{most_facts}
use Rattle.model_facts.specs.inner.Steps.{Grows}
use Rattle.model_facts.specs.declared.keys.FactKind.TheVariants.{State}
use Rattle.model_facts.proofs.fact_list.add_states.Given as goal

abbrev pub invariant-loop-state : goal.invariant-loop-state
invariant-loop-state l = Grows most_facts l.fn.facts l.facts (map (λ state. fact_in l.owner (State state)) (numbers_below l.state))
