-- Derivations: steps that each say by which events and by which earlier steps a fact holds, and when one is good.
use Rattle.std.specs.Prelude.{ℕ, ◌≡◌, ◌<◌, ◌-◌, Bool, true, false, List, length, slice_get, Option, Some, None, nat_lt, ◌==◌, ◌&&◌}
use Rattle.std.specs.List.{list_all, list_any}
use Rattle.fault_system.specs.Truth.{NumberSet, set_of, truth}
use Rattle.fault_system.specs.Systems.{System}
use Rattle.fault_system.specs.declared.formula.FactInfo.{FactInfo}
use Rattle.derivations.specs.declared.derivation.Firing.{Firing}

-- whether there is a step, and it is of this fact
abbrev pub is_of : ℕ → Option Firing → Bool
is_of fact None = false
is_of fact (Some step) = step.fact == fact

-- the facts of the steps of these numbers
abbrev pub facts_of : List Firing → List ℕ → NumberSet
facts_of steps numbers fact = list_any (λ number. is_of fact (slice_get steps number)) numbers

-- whether there is a fact, and its formula is true under these events and facts
abbrev pub is_made_true : Option FactInfo → NumberSet → NumberSet → Bool
is_made_true None events facts = false
is_made_true (Some fact) events facts = truth events facts fact.formula

-- A step is right if its events are in the set, the steps that it uses are earlier ones, and its fact is one of the system
-- whose formula is true under its events and the facts of these steps.
abbrev pub is_right_step : System → NumberSet → List Firing → ℕ → Firing → Bool
is_right_step system events steps number step =
    list_all events step.events
    && (list_all (λ earlier. nat_lt earlier number) step.uses
    && is_made_true (slice_get system.facts step.fact) (set_of step.events) (facts_of steps step.uses))

-- whether there is a step, and it is right
abbrev pub is_right : System → NumberSet → List Firing → ℕ → Option Firing → Bool
is_right system events steps number None = false
is_right system events steps number (Some step) = is_right_step system events steps number step

-- whether there is a step of this number, and it is right
abbrev pub is_right_at : System → NumberSet → List Firing → ℕ → Bool
is_right_at system events steps number = is_right system events steps number (slice_get steps number)

-- each step of a number below so many is right
abbrev pub AreRight : System → NumberSet → List Firing → ℕ → Type 0
AreRight system events steps count = (number : ℕ) → number < count → is_right_at system events steps number ≡ true

-- whether there is a last step, and it is of the target
abbrev pub ends_with : List Firing → ℕ → Bool
ends_with steps target = is_of target (slice_get steps (length steps - 1))

-- a derivation of a target is good if each step is right, and there is a last one, which is of the target
pub record IsGood (system : System) (target : ℕ) (events : NumberSet) (steps : List Firing) : Type 0 where
  pub right : AreRight system events steps (length steps)
  pub end : ends_with steps target ≡ true

-- the step of this number is the first that is not right
pub record IsFirstWrong (system : System) (events : NumberSet) (steps : List Firing) (number : ℕ) : Type 0 where
  pub within : number < length steps
  pub wrong : is_right_at system events steps number ≡ false
  pub before : AreRight system events steps number

-- each step is right, but there is none, or the last one is not of the target
pub record HasWrongEnd (system : System) (target : ℕ) (events : NumberSet) (steps : List Firing) : Type 0 where
  pub right : AreRight system events steps (length steps)
  pub end : ends_with steps target ≡ false
