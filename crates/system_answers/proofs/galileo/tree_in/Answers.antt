use Rattle.system_answers.proofs.WideRates.{numbers-wide}
use Rattle.system_answers.proofs.galileo.tree_in.Goals as goal

pub returns-in-Ok-clause-free : goal.returns-in-Ok-clause-free
returns-in-Ok-clause-free c = c.no_feedback.ensures c.args.wide c.args.text.now c.in-Ok.tree c.in-Ok.ensures.answer

pub returns-in-Ok-clause-numbers : goal.returns-in-Ok-clause-numbers
returns-in-Ok-clause-numbers c = numbers-wide c.args.wide c.in-Ok.tree c.in-Ok.ensures.rates
