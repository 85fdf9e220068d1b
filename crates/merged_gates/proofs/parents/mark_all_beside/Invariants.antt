use Rattle.std.proofs.Common.{ℕ, ◌≡◌, ◌⊎◌, true, take}
use Rattle.fault_system.specs.Truth.{member}
use Rattle.round_gates.specs.Trees.{has_gate}
use Rattle.merged_gates.specs.inner.Tests.{CountsBoth}
use Rattle.merged_gates.proofs.parents.mark_all_beside.Given as goal

abbrev pub invariant-loop-input : goal.invariant-loop-input
invariant-loop-input l = (n : ℕ) → member l.marks n ≡ true → (member l.fn.marks n ≡ true) ⊎ CountsBoth l.gates l.inputs n (has_gate (take l.input-index l.inputs) n)
