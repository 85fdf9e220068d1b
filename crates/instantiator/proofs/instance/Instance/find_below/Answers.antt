use Rattle.std.proofs.Common.{◌∙◌}
use Rattle.std.proofs.lemmas.List.{map-id}
use Rattle.instantiator.specs.Components.{component_below}
use Rattle.instantiator.proofs.instance.Instance.find_below.Goals as goal

pub returns : goal.returns
returns c = c.below.ensures ∙ (λ i. component_below (c.steps.ensures.components i) c.args.component (map-id c.args.names.now i))
