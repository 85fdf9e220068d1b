use Rattle.std.proofs.Common.{map, take}
use Rattle.model_facts.specs.Facts.{fact_in}
use Rattle.model_facts.specs.Limits.{most_facts}
use Rattle.model_facts.specs.inner.Steps.{Grows, at_side}
use Rattle.model_facts.proofs.fact_list.add_types.Given as goal

abbrev pub invariant-loop-number : goal.invariant-loop-number
invariant-loop-number l = Grows most_facts l.fn.facts l.facts (map (λ number. fact_in l.owner (at_side l.outward l.point number)) (take l.number-index l.types))
