use Rattle.round_gates.proofs.OneTree.{one-tree, tree-or-large}
use Rattle.round_gates.proofs.laws.one_tree.Goals as goal

pub returns-clause-one : goal.returns-clause-one
returns-clause-one c = λ system target a b is_system. one-tree system is_system target a b

pub returns-clause-none : goal.returns-clause-none
returns-clause-none c = λ system target tree refusal is_system. tree-or-large system is_system target tree refusal
