-- Beside specs/Single.antt: how an event that makes a fact hold alone is found.
use Rattle.std.specs.Prelude.{ℕ, ◌≡◌, true, false}
use Rattle.fault_system.specs.Truth.{NumberSet, truth}
use Rattle.fault_system.specs.Systems.{System, IsFact}
use Rattle.fault_system.specs.Rounds.{only}
use Rattle.fault_system.specs.declared.formula.FactInfo.{FactInfo}

-- the formula of a fact that is none of these is true where these hold and an event alone occurs
abbrev pub Begins : System → NumberSet → ℕ → Type 0
Begins system facts event =
    (n : ℕ) × (fact : FactInfo) × IsFact system n fact × (facts n ≡ false) × (truth (only event) facts fact.formula ≡ true)
