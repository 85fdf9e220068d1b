-- Beside specs/Occurring.antt: what no clause of `run` reaches.
use Rattle.std.specs.Prelude.{ℕ, ◌≡◌, true}
use Rattle.fault_system.specs.Truth.{occurs}
use Rattle.fault_system.specs.Systems.{System, IsFact}
use Rattle.fault_system.specs.declared.formula.FactInfo.{FactInfo}

-- a fact occurs in the formula of a fact
abbrev pub IsUsedFact : System → ℕ → Type 0
IsUsedFact system number = (n : ℕ) × (fact : FactInfo) × IsFact system n fact × (occurs number fact.formula ≡ true)
