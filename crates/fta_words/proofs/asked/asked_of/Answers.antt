use Rattle.std.proofs.Common.{sym, subst, ◌∙◌}
use Rattle.fta_words.specs.inner.Reading.{AsksAs}
use Rattle.fta_words.proofs.asked.asked_of.Goals as goal

pub returns-in-Number : goal.returns-in-Number
returns-in-Number c = subst (λ s. AsksAs s c.args.words.now c.number.result) (sym c.in-Number.is ∙ c.shape_of.ensures) c.number.ensures
