use Rattle.std.proofs.Common.{◌≡◌, ◌++◌, drop}
use Rattle.round_gates.specs.Nodes.{varying}
use Rattle.round_gates.proofs.joining.varying.Given as goal

abbrev pub invariant-loop-node : goal.invariant-loop-node
invariant-loop-node l = l.left ++ varying (drop l.node-index l.nodes) ≡ varying l.nodes
