-- Beside specs/Duals.antt: what no clause of `run` reaches.
use Rattle.std.specs.Prelude.{ℕ, ◌≡◌, true, not}
use Rattle.fault_system.specs.Truth.{NumberSet, occurs}
use Rattle.fault_system.specs.Systems.{System, IsFact}
use Rattle.fault_system.specs.declared.formula.FactInfo.{FactInfo}
use Rattle.backward_slice.specs.Slices.{DependsOn}

-- the numbers outside of a set
abbrev pub outside : NumberSet → NumberSet
outside set n = not (set n)

-- No fact reaches itself: none depends on a fact in whose formula it occurs.
abbrev pub IsWithoutFeedback : System → Type 0
IsWithoutFeedback system =
    (n m : ℕ) (fact : FactInfo) → IsFact system n fact → occurs m fact.formula ≡ true → DependsOn system m n → ⊥
