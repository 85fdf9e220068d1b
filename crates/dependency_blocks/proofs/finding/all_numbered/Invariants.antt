use Rattle.std.proofs.Common.{ℕ, ◌<◌, slice_index_or}
use Rattle.dependency_blocks.specs.Blocks.{number_of}
use Rattle.dependency_blocks.proofs.finding.all_numbered.Given as goal

abbrev pub invariant-loop-fact : goal.invariant-loop-fact
invariant-loop-fact l = (k : ℕ) → k < l.fact-index → (d : ℕ) → number_of l.numbers (slice_index_or l.facts k d) < 4294967295
