use Rattle.std.proofs.Common.{◌≡◌, map, take}
use Rattle.dependency_blocks.specs.inner.Reach.{rank_of}
use Rattle.dependency_blocks.proofs.ranking.ranks_of.Given as goal

abbrev pub invariant-loop-own : goal.invariant-loop-own
invariant-loop-own l = l.ranks.items ≡ map (rank_of l.reaches) (take l.own-index l.reaches)
