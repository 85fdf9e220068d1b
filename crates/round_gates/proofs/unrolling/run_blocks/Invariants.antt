use Rattle.round_gates.specs.inner.Unrolled.{AreUnrolledBelow}
use Rattle.round_gates.proofs.unrolling.run_blocks.Given as goal

abbrev pub invariant-loop-block : goal.invariant-loop-block
invariant-loop-block l = AreUnrolledBelow l.sliced l.block l.nodes l.lines.items
