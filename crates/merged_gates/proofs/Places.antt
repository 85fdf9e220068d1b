-- Below a number, and what is reached.
use Rattle.std.proofs.Common.{ℕ, ◌+◌, ◌≡◌, ◌<◌, ◌||◌, Bool, true, List, Some, slice_get, ⊎_elim, subst, arith}
use Rattle.std.proofs.lemmas.Bool.{cases_lt, or_cases}
use Rattle.fault_system.specs.Truth.{member}
use Rattle.round_gates.specs.declared.tree.Gate.{Gate}
use Rattle.round_gates.specs.Trees.{has_gate}
use Rattle.merged_gates.specs.inner.Tests.{AreReachedFrom}

-- what is so below a number and at it is so below the next
pub each-next : (P : ℕ → Type 0) (n : ℕ) → ((k : ℕ) → k < n → P k) → P n → (k : ℕ) → k < n + 1 → P k
each-next P n below here k less =
    ⊎_elim (λ before. below k before) (λ not_before. let same : n ≡ k = omega (arith, not_before, less) in subst P same here) (cases_lt k n)

-- the inputs of a marked gate are reached
pub reached-next : (gates : List Gate) (n : ℕ) (gate : Gate) (old new : List Bool) → slice_get gates n ≡ Some gate → member old n ≡ true → ((k : ℕ) → member new k ≡ true → member old k || has_gate gate.inputs k ≡ true) → (top : ℕ) → AreReachedFrom gates top old → AreReachedFrom gates top new
reached-next gates n gate old new at has marked top known k h =
    ⊎_elim (λ before. known k before) (λ input set closed start. closed n k gate (known n has set closed start) at input) (or_cases (member old k) (has_gate gate.inputs k) (marked k h))
