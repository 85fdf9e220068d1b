use Rattle.std.proofs.Common.{map, take}
use Rattle.plain_values.specs.Numbered.{numbered_from}
use Rattle.model_facts.specs.Facts.{fact_in, point_facts}
use Rattle.model_facts.specs.Limits.{most_facts}
use Rattle.model_facts.specs.inner.Steps.{Grows}
use Rattle.model_facts.proofs.fact_list.add_points.Given as goal

abbrev pub invariant-loop-number : goal.invariant-loop-number
invariant-loop-number l = Grows most_facts l.fn.facts l.facts (numbered_from (λ number point. map (fact_in l.owner) (point_facts l.universe number point)) 0 (take l.number l.points))
