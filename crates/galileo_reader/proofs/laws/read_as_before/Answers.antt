use Rattle.galileo_reader.proofs.TextLaws.{lines-so}
use Rattle.galileo_reader.proofs.laws.read_as_before.Goals as goal

pub returns-clause-lines : goal.returns-clause-lines
returns-clause-lines c = lines-so

pub returns-clause-tree : goal.returns-clause-tree
returns-clause-tree c = λ text tree (lines, are, is). (lines, lines-so text 0 lines are, is)
