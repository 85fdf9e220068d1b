use Rattle.std.proofs.Common.{◌∙◌, ap, sym}
use Rattle.std.specs.Prelude.{find}
use Rattle.system_answers.specs.Trees.{is_unrated, unrated_in}
use Rattle.system_answers.proofs.trees.unrated_in.Goals as goal

pub returns-then-rated : goal.returns-then-rated
returns-then-rated c =
    c.first_unrated.ensures ∙ ap (find (is_unrated c.args.rates.now)) c.items.ensures.items ∙ ap (λ rated. unrated_in rated c.args.rates.now c.args.tree.now) (sym c.if-rated.true)
