use Rattle.dependency_blocks.proofs.Passes.{LowUntil}
use Rattle.dependency_blocks.proofs.checks.fall.Given as goal

abbrev pub invariant-loop-number : goal.invariant-loop-number
invariant-loop-number l = LowUntil l.system l.numbers l.facts l.number-index
