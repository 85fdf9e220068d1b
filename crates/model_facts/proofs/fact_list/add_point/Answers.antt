use Rattle.std.proofs.Common.{true, false, ◌++◌, map, ap, ◌∙◌, subst}
use Rattle.plain_values.specs.declared.refusal.Code.TheVariants.{TooManyFacts}
use Rattle.propagation_points.specs.Uses.{side_types}
use Rattle.model_facts.specs.Facts.{fact_in}
use Rattle.model_facts.specs.Limits.{most_facts}
use Rattle.model_facts.specs.inner.Steps.{AddsFacts, at_side}
use Rattle.model_facts.proofs.StepLaws.{adds-then, two-sides}
use Rattle.model_facts.proofs.fact_list.add_point.Goals as goal

pub returns : goal.returns
returns c =
    let owner = c.args.owner in
    let number = c.args.number in
    let universe = c.args.universe.now in
    let inward = c.types_of-inward.ensures ∙ ap (side_types universe) c.side.ensures in
    let outward = c.types_of-outward.ensures ∙ ap (side_types universe) c.side-2.ensures in
    let enter = ap (map (λ type. fact_in owner (at_side false number type))) inward in
    let exit = ap (map (λ type. fact_in owner (at_side true number type))) outward in
    let whole = (λ i. enter i ++ exit i) ∙ two-sides owner number universe c.args.point.now in
    subst (λ facts. AddsFacts c.args.facts.now c.add_types-2.new.facts facts c.add_types-2.result) whole
    (adds-then most_facts TooManyFacts c.args.facts.now c.add_types.new.facts c.add_types-2.new.facts _ _ c.add_types-2.result c.in_ok-add_types.ensures c.add_types-2.ensures)
