use Rattle.galileo_writer.proofs.TreeNames.{gates-differ}
use Rattle.galileo_writer.proofs.laws.gates_differ.Goals as goal

pub returns : goal.returns
returns c = λ system tree is_system names made. gates-differ system is_system names tree made
