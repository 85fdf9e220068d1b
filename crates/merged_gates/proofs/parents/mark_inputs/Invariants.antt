use Rattle.std.proofs.Common.{ℕ, ◌≡◌, ◌||◌, true, length, take}
use Rattle.fault_system.specs.Truth.{member}
use Rattle.round_gates.specs.Trees.{has_gate}
use Rattle.merged_gates.proofs.parents.mark_inputs.Given as goal

abbrev pub invariant-loop-input : goal.invariant-loop-input
invariant-loop-input l = record {
  size : length l.marks ≡ length l.fn.marks;
  marks : (n : ℕ) → member l.marks n ≡ true → member l.fn.marks n || has_gate (take l.input-index l.inputs) n ≡ true;
}
