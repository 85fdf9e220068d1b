use Rattle.std.proofs.Common.{false, ◌∙◌}
use Rattle.model_review.proofs.ends.leads_to.Goals as goal

pub returns : goal.returns
returns c = c.has.ensures ∙ c.requires (c.args.at.owner, c.args.at.number, false)
