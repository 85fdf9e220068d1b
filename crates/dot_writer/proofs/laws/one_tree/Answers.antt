use Rattle.dot_writer.proofs.ReadBack.{one-tree}
use Rattle.dot_writer.proofs.laws.one_tree.Goals as goal

pub returns : goal.returns
returns c = one-tree
