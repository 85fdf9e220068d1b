use Rattle.merged_gates.specs.inner.Solutions.{KeepsGates}
use Rattle.merged_gates.proofs.joining.join_all.Given as goal

abbrev pub invariant-loop-n : goal.invariant-loop-n
invariant-loop-n l = KeepsGates l.fn.gates l.gates
