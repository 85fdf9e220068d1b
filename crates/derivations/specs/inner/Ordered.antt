-- The order of the steps, by keys, and the steps that are made of it.
use Rattle.std.specs.Prelude.{ℕ, ◌+◌, ◌*◌, ◌^◌, ◌<◌, ◌≡◌, Bool, true, List, length, slice_index_or, All, AllPairs, map}
use Rattle.std.specs.List.Sorted.{IsStrictlyIncreasing}
use Rattle.fault_system.specs.Truth.{NumberSet, Has, member, set_of}
use Rattle.fault_system.specs.Systems.{System}
use Rattle.fault_system.specs.Rounds.{time_of}
use Rattle.derivations.specs.Derived.{comes_before, uses_event, uses_fact}
use Rattle.derivations.specs.declared.derivation.Firing.{Firing}

-- the key of a fact: keys rise as the steps do
abbrev pub key_of : List ℕ → ℕ → ℕ
key_of rounds fact = time_of rounds fact * 2 ^ 32 + fact

-- the keys of the marked facts below a bound
pub record AreKeys (rounds : List ℕ) (marks : List Bool) (bound : ℕ) (keys : List ℕ) : Type 0 where
  pub each : (key : ℕ) → Has (set_of keys) key → (fact : ℕ) × (fact < bound) × Has (member marks) fact × (key ≡ key_of rounds fact)
  pub all : (fact : ℕ) → fact < bound → Has (member marks) fact → Has (set_of keys) (key_of rounds fact)

-- the marked facts, each once, as the steps stand
pub record IsOrder (rounds : List ℕ) (marks : List Bool) (order : List ℕ) : Type 0 where
  pub into : (fact : ℕ) → Has (set_of order) fact → Has (member marks) fact
  pub all : (fact : ℕ) → Has (member marks) fact → Has (set_of order) fact
  pub ordered : AllPairs (λ f g. comes_before rounds f g ≡ true) order

-- the place of a fact
abbrev pub place_at : List ℕ → ℕ → ℕ
place_at places fact = slice_index_or places fact 0

-- the places of facts in their order
pub record ArePlaces (order places : List ℕ) : Type 0 where
  pub each : (n : ℕ) → n < length order → place_at places (slice_index_or order n 0) ≡ n

-- the step of a fact, where facts have these places
pub record IsMade (system : System) (events : NumberSet) (rounds places : List ℕ) (step : Firing) : Type 0 where
  pub events_rise : IsStrictlyIncreasing step.events
  pub events_are : (n : ℕ) → set_of step.events n ≡ uses_event system events step.fact n
  pub uses_rise : IsStrictlyIncreasing step.uses
  pub each_use : (n : ℕ) → Has (set_of step.uses) n → (other : ℕ) × Has (uses_fact system rounds step.fact) other × (place_at places other ≡ n)
  pub all_uses : (other : ℕ) → Has (uses_fact system rounds step.fact) other → Has (set_of step.uses) (place_at places other)

-- the steps of facts, where facts have these places
pub record AreMade (system : System) (events : NumberSet) (rounds places order : List ℕ) (steps : List Firing) : Type 0 where
  pub facts : map (λ step. step.fact) steps ≡ order
  pub made : All (IsMade system events rounds places) steps

-- the steps of facts in their order
pub record HasSteps (system : System) (events : NumberSet) (rounds order : List ℕ) (steps : List Firing) : Type 0 where
  pub places : List ℕ
  pub are_places : ArePlaces order places
  pub are_made : AreMade system events rounds places order steps
