use Rattle.std.proofs.Common.{ap, ◌∙◌}
use Rattle.system_review.specs.Possible.{always_in}
use Rattle.model_review.specs.Seen.{Seen}
use Rattle.model_review.proofs.view.View.always_holds.Goals as goal

pub returns : goal.returns
returns c = c.has.ensures ∙ c.self.invariant.1 c.args.fact ∙ ap (λ (seen : Seen). always_in seen.system c.args.fact) c.self.view_is
