use Rattle.std.proofs.Common.{◌≡◌, ◌++◌, drop}
use Rattle.round_gates.specs.Nodes.{new_ones, each_once, without}
use Rattle.round_gates.proofs.joining.distinct_many.Given as goal

abbrev pub invariant-loop-node : goal.invariant-loop-node
invariant-loop-node l = l.seen.keys ++ new_ones l.seen.keys (without l.dropped (drop l.node-index l.nodes)) ≡ each_once (without l.dropped l.nodes)
