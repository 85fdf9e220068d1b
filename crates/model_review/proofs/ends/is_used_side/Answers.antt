use Rattle.std.proofs.Common.{◌∙◌, ap}
use Rattle.std.specs.List.{list_any}
use Rattle.model_review.specs.Seen.{is_used, number_at}
use Rattle.model_review.proofs.ends.is_used_side.Goals as goal

pub returns : goal.returns
returns c = c.some_used.ensures ∙ ap (list_any (λ type. is_used c.args.view.now (number_at c.args.view.now c.args.side type))) c.types.ensures
