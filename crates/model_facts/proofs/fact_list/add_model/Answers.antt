use Rattle.std.proofs.Common.{◌++◌, length, map, ap, ◌∙◌, subst}
use Rattle.plain_values.specs.declared.refusal.Code.TheVariants.{TooManyFacts}
use Rattle.plain_values.specs.Numbered.{numbers_below, numbered_from}
use Rattle.model_facts.specs.Facts.{fact_in, point_facts}
use Rattle.model_facts.specs.Limits.{most_facts}
use Rattle.model_facts.specs.inner.Steps.{AddsFacts}
use Rattle.model_facts.specs.declared.keys.FactKind.TheVariants.{State}
use Rattle.model_facts.proofs.StepLaws.{adds-then, facts-parts}
use Rattle.model_facts.proofs.fact_list.add_model.Goals as goal

pub returns : goal.returns
returns c =
    let owner = c.args.owner in
    let universe = c.args.universe.now in
    let count = ap length c.variants.ensures in
    let states = ap (λ n. map (λ state. fact_in owner (State state)) (numbers_below n)) count in
    let points = ap (numbered_from (λ number point. map (fact_in owner) (point_facts universe number point)) 0) c.list.ensures.list in
    let whole = (λ i. states i ++ points i) ∙ facts-parts owner universe c.args.model.now in
    subst (λ facts. AddsFacts c.args.facts.now c.add_points.new.facts facts c.add_points.result) whole
    (adds-then most_facts TooManyFacts c.args.facts.now c.add_states.new.facts c.add_points.new.facts _ _ c.add_points.result c.in_ok-add_states.ensures c.add_points.ensures)
