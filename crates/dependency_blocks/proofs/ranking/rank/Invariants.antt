use Rattle.std.proofs.Common.{◌≡◌, ◌≤◌, ◌+◌, drop}
use Rattle.dependency_blocks.specs.inner.Reach.{rank_of}
use Rattle.dependency_blocks.proofs.ranking.rank.Given as goal

abbrev pub invariant-loop-other : goal.invariant-loop-other
invariant-loop-other l = (l.rank ≤ l.other-index) × (l.rank + rank_of (drop l.other-index l.reaches) l.own ≡ rank_of l.reaches l.own)
