use Rattle.std.proofs.Common.{ℕ, ◌≡◌, ◌<◌, [], length, slice_index_or}
use Rattle.fault_system.specs.Truth.{Has, member}
use Rattle.dependency_blocks.specs.inner.Reach.{IsReach}
use Rattle.dependency_blocks.proofs.ranking.reaches_in.Given as goal

abbrev pub invariant-loop-number : goal.invariant-loop-number
invariant-loop-number l = record {
  long : length l.reaches.items ≡ l.number;
  reach : (n : ℕ) → n < l.number → Has (member l.wanted) n → IsReach l.system n (slice_index_or l.reaches.items n []);
}
