use Rattle.std.proofs.Common.{ℕ, ◌≡◌, ◌⊎◌, Some, true, slice_get}
use Rattle.round_gates.specs.Trees.{has_gate}
use Rattle.merged_gates.proofs.parents.note_parents.Given as goal

abbrev pub invariant-loop-input : goal.invariant-loop-input
invariant-loop-input l = (m p : ℕ) → slice_get l.parents m ≡ Some (Some p) → (slice_get l.fn.parents m ≡ Some (Some p)) ⊎ ((p ≡ l.n) × (has_gate l.inputs m ≡ true))
