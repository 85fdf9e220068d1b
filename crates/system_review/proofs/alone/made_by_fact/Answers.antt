use Rattle.std.proofs.Common.{sym, ◌∙◌}
use Rattle.system_review.proofs.InOrder.{made-at_once}
use Rattle.system_review.proofs.alone.made_by_fact.Goals as goal

pub returns-then-is_true_at : goal.returns-then-is_true_at
returns-then-is_true_at c = made-at_once c.args.system.now c.args.among.now c.args.cause c.args.target (sym c.is_true_at.ensures ∙ c.if-is_true_at.true)
