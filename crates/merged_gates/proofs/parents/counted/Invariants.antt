use Rattle.merged_gates.specs.inner.Tests.{AreCounted}
use Rattle.merged_gates.proofs.parents.counted.Given as goal

abbrev pub invariant-loop-gate : goal.invariant-loop-gate
invariant-loop-gate l = AreCounted l.gates l.marks
