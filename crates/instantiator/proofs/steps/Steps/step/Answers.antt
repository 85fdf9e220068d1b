use Rattle.std.proofs.Common.{[], ◌∷◌, ap, ◌∙◌}
use Rattle.instantiator.specs.Components.{component_below}
use Rattle.instantiator.proofs.steps.Steps.step.Goals as goal

pub returns : goal.returns
returns c =
    c.copied.ensures ∙ c.get.ensures.value ∙ c.self.invariant.known (c.args.number, c.args.name) ∙ ap (λ components. component_below components c.args.number (c.args.name.now ∷ [])) c.self.view_is
