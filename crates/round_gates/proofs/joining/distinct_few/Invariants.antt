use Rattle.std.proofs.Common.{◌≡◌, ◌++◌, drop}
use Rattle.round_gates.specs.Nodes.{new_ones, each_once, without}
use Rattle.round_gates.proofs.joining.distinct_few.Given as goal

abbrev pub invariant-loop-node : goal.invariant-loop-node
invariant-loop-node l = l.kept.items ++ new_ones l.kept.items (without l.dropped (drop l.node-index l.nodes)) ≡ each_once (without l.dropped l.nodes)
