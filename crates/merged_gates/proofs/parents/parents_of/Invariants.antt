use Rattle.merged_gates.specs.inner.Tests.{AreParents}
use Rattle.merged_gates.proofs.parents.parents_of.Given as goal

abbrev pub invariant-loop-n : goal.invariant-loop-n
invariant-loop-n l = AreParents l.gates l.parents.items
