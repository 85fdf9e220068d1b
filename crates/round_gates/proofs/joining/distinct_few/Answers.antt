use Rattle.std.proofs.Common.{get_or, rules}
use Rattle.round_gates.specs.declared.node.Node.TheVariants.{Always}
use Rattle.round_gates.proofs.Kept.{kept-next}
use Rattle.round_gates.proofs.joining.distinct_few.Goals as goal

pub loop-node-preserved : goal.loop-node-preserved
loop-node-preserved c = kept-next c.args.dropped (get_or c.args.nodes.now c.loop-node.node-index Always) c.loop-node.kept.items c.keep.new.kept.items c.args.nodes.now _ c.loop-node.node-index c.loop-node-test.true (search rules) c.in_ok-keep.ensures c.loop-node.invariant
