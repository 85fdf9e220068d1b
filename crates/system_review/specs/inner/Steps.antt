-- What the steps of the gathering of loops add, and what follows next from some facts.
use Rattle.std.specs.Prelude.{ℕ, ◌≡◌, Bool, false, cond, ◌&&◌, ◌||◌, not, nat_lt, nat_eq, List, [], ◌∷◌, ◌++◌, slice_get}
use Rattle.std.specs.Option.{option_map_or}
use Rattle.fault_system.specs.Truth.{NumberSet, Has, member, occurs, set_of}
use Rattle.fault_system.specs.Systems.{System, applied}
use Rattle.fault_system.specs.Rounds.{no_event}
use Rattle.dependency_blocks.specs.Blocks.{number_of, size_of}
use Rattle.system_review.specs.Alone.{following}
use Rattle.system_review.specs.declared.looping.Loop.{Loop}

-- whether a fact occurs in its own formula
abbrev pub occurs_in_own : System → ℕ → Bool
occurs_in_own system number = option_map_or (λ fact. occurs number fact.formula) (slice_get system.facts number) false

-- whether the facts are more than one, or the one occurs in its own formula
abbrev pub is_looped : System → Loop → Bool
is_looped system found = nat_lt 1 found.size || occurs_in_own system found.first

-- the facts of the block of a fact
abbrev pub loop_at : List ℕ → ℕ → Loop
loop_at numbers number = record { size = size_of numbers (number_of numbers number); first = number }

-- The block of a fact is seen beside those that were. If it was not, and is a loop, that is added.
pub record AddsLoop (system : System) (numbers : List ℕ) (number : ℕ) (seen_before seen_after : ℕ → Bool) (before after : List Loop) : Type 0 where
  pub seen : (block : ℕ) → seen_after block ≡ (nat_eq (number_of numbers number) block || seen_before block)
  pub loops : after ≡ before ++ cond (not (seen_before (number_of numbers number)) && is_looped system (loop_at numbers number)) (loop_at numbers number ∷ []) []

-- whether the formula of a fact is true where these facts hold and no event occurs, and it is none of these
abbrev pub is_next : System → List ℕ → NumberSet
is_next system facts n = not (set_of facts n) && member (applied system no_event (set_of facts)) n

-- facts that follow from a fact by way of some others in so many rounds, among them the fact itself
pub record IsWithin (system : System) (among : List ℕ) (cause rounds : ℕ) (facts : NumberSet) : Type 0 where
  pub cause_in : Has facts cause
  pub inside : (n : ℕ) → Has facts n → Has (following system among cause rounds) n

-- each among some facts whose formula is true where these hold and no event occurs is one of these
abbrev pub IsClosedAmong : System → List ℕ → NumberSet → Type 0
IsClosedAmong system among facts = (n : ℕ) → Has (set_of among) n → Has (member (applied system no_event facts)) n → Has facts n
