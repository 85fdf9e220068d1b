use Rattle.galileo_reader.proofs.OneAnswer.{one-read, one-wrong, read-apart}
use Rattle.galileo_reader.proofs.laws.one_answer.Goals as goal

pub returns-clause-tree : goal.returns-clause-tree
returns-clause-tree c = one-read

pub returns-clause-apart : goal.returns-clause-apart
returns-clause-apart c = read-apart

pub returns-clause-flaw : goal.returns-clause-flaw
returns-clause-flaw c = one-wrong
