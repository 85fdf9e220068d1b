use Rattle.std.proofs.Common.{ℕ, ◌<◌, slice_index_or}
use Rattle.fault_system.specs.Truth.{Has, member}
use Rattle.dependency_blocks.proofs.checks.all_marked.Given as goal

abbrev pub invariant-loop-number : goal.invariant-loop-number
invariant-loop-number l = (k : ℕ) → k < l.number-index → (d : ℕ) → Has (member l.marks) (slice_index_or l.facts k d)
