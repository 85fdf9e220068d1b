use Rattle.std.proofs.Common.{◌≡◌, ◌||◌, drop}
use Rattle.round_gates.specs.declared.node.GateKey.{GateKey}
use Rattle.round_gates.specs.declared.node.Node.TheVariants.{Gate}
use Rattle.round_gates.specs.Nodes.{has_node}
use Rattle.round_gates.specs.inner.Reached.{has_key}
use Rattle.round_gates.proofs.reaching.add_inputs.Given as goal

abbrev pub invariant-loop-input : goal.invariant-loop-input
invariant-loop-input l = (key : GateKey) → has_key l.keys.keys key || has_node (drop l.input-index l.inputs) (Gate key) ≡ has_key l.fn.keys.keys key || has_node l.inputs (Gate key)
