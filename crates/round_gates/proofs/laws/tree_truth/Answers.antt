use Rattle.round_gates.proofs.TreeTruth.{tree-truth}
use Rattle.round_gates.proofs.laws.tree_truth.Goals as goal

pub returns : goal.returns
returns c = tree-truth
