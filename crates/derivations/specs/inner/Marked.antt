-- Marks that stand for the events of a step and for the facts of the steps that it uses.
use Rattle.std.specs.Prelude.{ℕ, ◌≡◌, ◌<◌, Bool, false, List, length}
use Rattle.fault_system.specs.Truth.{NumberSet, member, set_of}
use Rattle.derivations.specs.declared.derivation.Firing.{Firing}
use Rattle.derivations.specs.Steps.{facts_of}

-- no number has a mark
abbrev pub IsBlank : List Bool → Type 0
IsBlank marks = (n : ℕ) → member marks n ≡ false

-- of the numbers for which there are marks, those of a set have one
abbrev pub IsMarked : List Bool → NumberSet → Type 0
IsMarked marks numbers = (n : ℕ) → n < length marks → member marks n ≡ numbers n

-- marks for what the formula of a step is to be true under
pub record AreMarked (steps : List Firing) (step : Firing) (facts events : List Bool) : Type 0 where
  pub facts_are : IsMarked facts (facts_of steps step.uses)
  pub events_are : IsMarked events (set_of step.events)
