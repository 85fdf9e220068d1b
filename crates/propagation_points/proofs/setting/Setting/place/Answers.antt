use Rattle.std.proofs.Common.{◌∙◌}
use Rattle.propagation_points.specs.States.{place_of_sort}
use Rattle.propagation_points.proofs.setting.Setting.place.Goals as goal

pub returns : goal.returns
returns c = c.place.ensures ∙ (λ i. place_of_sort (c.self.view_is i).states (c.text.ensures.text i))
