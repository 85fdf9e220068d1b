use Rattle.std.proofs.Common.{false, ◌∙◌}
use Rattle.model_review.proofs.ends.is_linked.Goals as goal

pub returns : goal.returns
returns c = c.has.ensures ∙ c.requires (c.args.at.owner, c.args.at.number, false)
