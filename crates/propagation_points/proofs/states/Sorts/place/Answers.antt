use Rattle.std.proofs.Common.{ap, ◌∙◌}
use Rattle.propagation_points.specs.States.{place_of_sort}
use Rattle.propagation_points.proofs.states.Sorts.place.Goals as goal

pub returns : goal.returns
returns c = c.copied.ensures ∙ c.get.ensures.value ∙ c.self.invariant.0.0 c.args.name ∙ ap (λ sorts. place_of_sort sorts c.args.name.now) c.self.view_is
