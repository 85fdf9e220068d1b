use Rattle.std.proofs.Common.{◌≡◌, ◌+◌, ◌≤◌, drop}
use Rattle.round_gates.specs.Nodes.{always_in}
use Rattle.round_gates.proofs.joining.always_in.Given as goal

abbrev pub invariant-loop-node : goal.invariant-loop-node
invariant-loop-node l = (l.count ≤ l.node-index) × (l.count + always_in (drop l.node-index l.nodes) ≡ always_in l.nodes)
