use Rattle.std.proofs.Common.{ap, ◌∙◌, position}
use Rattle.propagation_points.specs.Points.{declares}
use Rattle.propagation_points.proofs.declared.DeclaredSides.place.Goals as goal

pub returns : goal.returns
returns c =
    c.copied.ensures ∙ c.get.ensures.value ∙ c.self.invariant (c.args.outward, c.args.name) ∙ ap (λ sides. position (declares c.args.outward c.args.name.now) sides.items) c.self.view_is
