use Rattle.std.proofs.Common.{◌≡◌, map, take}
use Rattle.round_gates.specs.inner.Trees.{input_for}
use Rattle.round_gates.proofs.building.inputs_for.Given as goal

abbrev pub invariant-loop-node : goal.invariant-loop-node
invariant-loop-node l = l.inputs ≡ map (input_for l.keys.keys) (take l.node-index l.nodes)
