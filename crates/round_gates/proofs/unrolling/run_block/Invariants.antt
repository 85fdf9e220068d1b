use Rattle.round_gates.specs.Stages.{stage_nodes, low_nodes}
use Rattle.round_gates.specs.inner.Unrolled.{AreUnrolled}
use Rattle.round_gates.proofs.unrolling.run_block.Given as goal

abbrev pub invariant-loop-stage : goal.invariant-loop-stage
invariant-loop-stage l = AreUnrolled l.sliced.system.now l.sliced.blocks.now (stage_nodes l.sliced.system.now l.sliced.blocks.now (low_nodes l.sliced.system.now l.sliced.blocks.now l.block) l.block l.stage) l.nodes l.lines.items
