-- Beside specs/Outside.antt: what no clause of `run` reaches.
use Rattle.std.specs.Prelude.{◌≡◌, ℕ, ◌≤◌, ◌⊎◌, List, Result, MatchResult}
use Rattle.fta_outside.specs.declared.error.WriteError.{WriteError}
use Rattle.fta_outside.specs.declared.error.WriteError.TheVariants.{Memory}
use Rattle.fta_outside.specs.Outside.{Rose, Seen, Took, TookPrefix}

-- The whole text was taken; or a front of it, and the count of faults rose, or the error is excused. Faults are never taken back.
abbrev pub WritesBut : {T E : Type 0} → (E → Type 0) → List ℕ → Result T E → Seen → Seen → Type 0
WritesBut Excuse text result before after =
    MatchResult result (λ _. Took text before after) (λ error. TookPrefix text before after × (Rose before.faults after.faults ⊎ Excuse error))
    × (before.faults ≤ after.faults)

-- want of memory
abbrev pub LacksMemory : WriteError → Type 0
LacksMemory error = error ≡ Memory

-- The same, and each error is a fault of the sink.
abbrev pub Writes : {T E : Type 0} → List ℕ → Result T E → Seen → Seen → Type 0
Writes text result before after = WritesBut (λ _. ⊥) text result before after
