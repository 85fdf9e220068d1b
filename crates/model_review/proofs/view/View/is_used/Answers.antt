use Rattle.std.proofs.Common.{ap, ◌∙◌}
use Rattle.system_review.specs.Occurring.{used_in}
use Rattle.model_review.specs.Seen.{Seen}
use Rattle.model_review.proofs.view.View.is_used.Goals as goal

pub returns : goal.returns
returns c = c.has.ensures ∙ c.self.invariant.2 c.args.fact ∙ ap (λ (seen : Seen). used_in seen.system c.args.fact) c.self.view_is
