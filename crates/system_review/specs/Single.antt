-- Which events make facts hold alone.
use Rattle.std.specs.Prelude.{ℕ}
use Rattle.fault_system.specs.Systems.{System, Holds}
use Rattle.fault_system.specs.Rounds.{no_event, only}
use Rattle.system_review.specs.Occurring.{IsUsedEvent}

-- a fact holds where an event alone occurs, and does not hold where none does
abbrev pub IsSingleEvent : System → ℕ → Type 0
IsSingleEvent system event = (n : ℕ) × Holds system (only event) n × (Holds system no_event n → ⊥)

-- an event occurs in the formula of a fact, and where it alone occurs no fact holds that does not hold where none does
abbrev pub IsNoSingleEvent : System → ℕ → Type 0
IsNoSingleEvent system event = IsUsedEvent system event × (IsSingleEvent system event → ⊥)
