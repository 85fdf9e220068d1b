use Rattle.std.proofs.Common.{ap, ◌∙◌}
use Rattle.propagation_points.specs.Points.{place_named}
use Rattle.propagation_points.proofs.points.Points.place.Goals as goal

pub returns : goal.returns
returns c = c.copied.ensures ∙ c.get.ensures.value ∙ c.self.invariant.0 c.args.name ∙ ap (λ points. place_named points c.args.name.now) c.self.view_is
