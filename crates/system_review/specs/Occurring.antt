-- Which facts and events have an effect: what occurs in formulas, and what some facts depend on.
use Rattle.std.specs.Prelude.{ℕ, ◌<◌, ◌≡◌, true, List, length, Contains}
use Rattle.std.specs.List.{list_any}
use Rattle.fault_system.specs.Truth.{NumberSet, occurs, occurs_event}
use Rattle.fault_system.specs.Systems.{System, IsFact}
use Rattle.fault_system.specs.declared.formula.FactInfo.{FactInfo}
use Rattle.backward_slice.specs.Slices.{DependsOnEvent}

-- the facts that occur in formulas, as a test
abbrev pub used_in : System → NumberSet
used_in system number = list_any (λ fact. occurs number fact.formula) system.facts

-- an event occurs in the formula of a fact
abbrev pub IsUsedEvent : System → ℕ → Type 0
IsUsedEvent system event = (n : ℕ) × (fact : FactInfo) × IsFact system n fact × (occurs_event event fact.formula ≡ true)

-- an event of a system occurs in the formula of no fact
abbrev pub IsUnusedEvent : System → ℕ → Type 0
IsUnusedEvent system event = (event < length system.events) × (IsUsedEvent system event → ⊥)

-- one of these facts depends on an event
abbrev pub IsReachedEvent : System → List ℕ → ℕ → Type 0
IsReachedEvent system from event = (target : ℕ) × Contains from target × DependsOnEvent system target event

-- an event occurs in the formula of a fact, and none of these facts depends on it
abbrev pub IsUnreachedEvent : System → List ℕ → ℕ → Type 0
IsUnreachedEvent system from event = IsUsedEvent system event × (IsReachedEvent system from event → ⊥)
