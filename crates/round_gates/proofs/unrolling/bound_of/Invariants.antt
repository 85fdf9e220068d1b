use Rattle.std.proofs.Common.{◌<◌, ℕ, slice_index_or}
use Rattle.dependency_blocks.specs.Blocks.{number_of}
use Rattle.round_gates.proofs.unrolling.bound_of.Given as goal

abbrev pub invariant-loop-fact : goal.invariant-loop-fact
invariant-loop-fact l = (k d : ℕ) → k < l.fact-index → number_of l.blocks (slice_index_or l.facts k d) < 4294967295 → number_of l.blocks (slice_index_or l.facts k d) < l.bound
