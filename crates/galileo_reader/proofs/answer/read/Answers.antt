use Rattle.galileo_reader.proofs.RateNumbers.{answer-rated}
use Rattle.galileo_reader.proofs.TreeTexts.{answer-named, answer-truth}
use Rattle.galileo_reader.proofs.answer.read.Goals as goal

pub returns-clause-tree : goal.returns-clause-tree
returns-clause-tree c = answer-named c.in_ok-lines.lines c.items.result.now c.tree_of_lines.result c.items.ensures.items c.tree_of_lines.ensures

pub returns-clause-truth : goal.returns-clause-truth
returns-clause-truth c = answer-truth c.args.wide c.args.text.now c.in_ok-lines.lines c.items.result.now c.tree_of_lines.result c.in_ok-lines.ensures c.items.ensures.items c.tree_of_lines.ensures

pub returns-clause-rates : goal.returns-clause-rates
returns-clause-rates c = answer-rated c.args.wide c.args.text.now c.in_ok-lines.lines c.items.result.now c.tree_of_lines.result c.in_ok-lines.ensures c.items.ensures.items c.tree_of_lines.ensures
