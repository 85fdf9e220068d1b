-- The derivation of a target under a set of events, by rounds.
use Rattle.std.specs.Prelude.{ℕ, ◌≡◌, ◌↔◌, ◌==◌, ◌&&◌, ◌||◌, Bool, true, false, nat_lt, List, length, map, filter, slice_get, Option, Some, None, All, AllPairs}
use Rattle.std.specs.List.{range_with_len}
use Rattle.fault_system.specs.Truth.{NumberSet, Has, set_of, occurs, occurs_event}
use Rattle.fault_system.specs.Systems.{System}
use Rattle.fault_system.specs.Rounds.{AreRounds, time_of}
use Rattle.fault_system.specs.declared.formula.FactInfo.{FactInfo}
use Rattle.fault_system.specs.declared.formula.Formula.{Formula}
use Rattle.derivations.specs.declared.derivation.Firing.{Firing}

-- whether something holds of the formula of a fact, where there is one
abbrev pub of_formula : (Formula → Bool) → Option FactInfo → Bool
of_formula test None = false
of_formula test (Some info) = test info.formula

-- whether a fact has a round, and an earlier one
abbrev pub is_before_round : List ℕ → ℕ → ℕ → Bool
is_before_round rounds round fact = nat_lt 0 (time_of rounds fact) && nat_lt (time_of rounds fact) round

-- a fact uses another that occurs in its formula and has an earlier round
abbrev pub uses_fact : System → List ℕ → ℕ → NumberSet
uses_fact system rounds fact other =
    of_formula (occurs other) (slice_get system.facts fact) && is_before_round rounds (time_of rounds fact) other

-- a fact is reached from a target by use
abbrev pub IsReached : System → List ℕ → ℕ → ℕ → Type 0
IsReached system rounds target fact =
    (set : NumberSet) → Has set target
    → ((f g : ℕ) → Has set f → uses_fact system rounds f g ≡ true → Has set g) → Has set fact

-- the order of the steps: by round, and then by number
abbrev pub comes_before : List ℕ → ℕ → ℕ → Bool
comes_before rounds f g =
    nat_lt (time_of rounds f) (time_of rounds g) || ((time_of rounds f == time_of rounds g) && nat_lt f g)

-- the numbers of a set below a size, rising
abbrev pub numbers_in : ℕ → NumberSet → List ℕ
numbers_in size set = filter set (range_with_len 0 size)

-- the events of a set that occur in the formula of a fact
abbrev pub uses_event : System → NumberSet → ℕ → NumberSet
uses_event system events fact event = events event && of_formula (occurs_event event) (slice_get system.facts fact)

-- whether a step is of a fact that another uses
abbrev pub is_used_by : System → List ℕ → ℕ → Option Firing → Bool
is_used_by system rounds fact None = false
is_used_by system rounds fact (Some step) = uses_fact system rounds fact step.fact

-- The derivation of a target: a step for each fact that is reached from it by use, in order; its events are those of the set
-- that occur in its formula, and its uses are the steps of the facts that it uses.
pub record IsDerivation (system : System) (events : NumberSet) (rounds : List ℕ) (target : ℕ) (steps : List Firing) : Type 0 where
  pub facts : (fact : ℕ) → Has (set_of (map (λ step. step.fact) steps)) fact ↔ IsReached system rounds target fact
  pub ordered : AllPairs (λ f g. comes_before rounds f g ≡ true) (map (λ step. step.fact) steps)
  pub events_are : All (λ step. step.events ≡ numbers_in (length system.events) (uses_event system events step.fact)) steps
  pub uses_are : All (λ step. step.uses ≡ numbers_in (length steps) (λ number. is_used_by system rounds step.fact (slice_get steps number))) steps

-- the derivation of a target by the rounds in which the facts come to hold under a set of events
pub record IsByRounds (system : System) (events : NumberSet) (target : ℕ) (steps : List Firing) : Type 0 where
  pub rounds : List ℕ
  pub are_rounds : AreRounds system events rounds
  pub derivation : IsDerivation system events rounds target steps
