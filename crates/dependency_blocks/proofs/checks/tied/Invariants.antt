use Rattle.dependency_blocks.specs.inner.Checks.{AreTied}
use Rattle.dependency_blocks.proofs.checks.tied.Given as goal

abbrev pub invariant-loop-number : goal.invariant-loop-number
invariant-loop-number l = AreTied l.way l.system l.numbers l.leaders l.marks
