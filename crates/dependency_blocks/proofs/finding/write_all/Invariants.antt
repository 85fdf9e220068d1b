use Rattle.std.proofs.Common.{ℕ, ◌≡◌, ◌<◌, length, slice_index_or}
use Rattle.dependency_blocks.specs.Blocks.{number_of}
use Rattle.dependency_blocks.specs.inner.Checks.{IsTable}
use Rattle.dependency_blocks.specs.inner.Sizes.{AreSmall}
use Rattle.dependency_blocks.proofs.finding.write_all.Given as goal

abbrev pub invariant-loop-fact : goal.invariant-loop-fact
invariant-loop-fact l = record {
  long : length l.numbers ≡ length l.fn.numbers;
  table : IsTable l.facts l.numbers;
  small : AreSmall l.numbers;
  exact : (k : ℕ) → k < l.fact-index → (d : ℕ) → slice_index_or l.facts k d < length l.numbers → number_of l.proposed (slice_index_or l.facts k d) < length l.numbers → number_of l.numbers (slice_index_or l.facts k d) ≡ number_of l.proposed (slice_index_or l.facts k d);
}
