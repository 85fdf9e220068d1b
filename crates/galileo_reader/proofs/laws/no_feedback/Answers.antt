use Rattle.galileo_reader.proofs.CycleLaws.{no-feedback}
use Rattle.galileo_reader.proofs.laws.no_feedback.Goals as goal

pub returns : goal.returns
returns c = λ wide text tree (lines, are, is). no-feedback tree is.acyclic
