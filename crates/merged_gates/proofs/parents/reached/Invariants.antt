use Rattle.merged_gates.specs.inner.Tests.{AreReachedFrom}
use Rattle.merged_gates.proofs.parents.reached.Given as goal

abbrev pub invariant-loop-n : goal.invariant-loop-n
invariant-loop-n l = AreReachedFrom l.gates l.top l.marks
