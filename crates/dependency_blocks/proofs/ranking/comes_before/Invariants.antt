use Rattle.std.proofs.Common.{◌≡◌, ◌≤◌, drop, length}
use Rattle.dependency_blocks.specs.inner.Reach.{comes_before}
use Rattle.dependency_blocks.proofs.ranking.comes_before.Given as goal

abbrev pub invariant-loop-number : goal.invariant-loop-number
invariant-loop-number l = (l.number ≤ length l.other) × (comes_before (drop l.number l.one) (drop l.number l.other) ≡ comes_before l.one l.other)
