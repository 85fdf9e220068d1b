-- The text of a derivation: a line for each step.
use Rattle.std.specs.Prelude.{ℕ, ◌+◌, ◌<◌, ◌≡◌, true, List, [], ◌∷◌, ◌++◌, length, map, decimal, slice_index_or}
use Rattle.std.specs.List.{flat_map, list_all}
use Rattle.plain_values.specs.Rising.{RisesWithin}
use Rattle.fault_system.specs.Truth.{NumberSet}
use Rattle.fault_system.specs.Systems.{System}
use Rattle.derivations.specs.declared.derivation.Firing.{Firing}

-- the names of the facts of a system, in their order
abbrev pub fact_names : System → List (List ℕ)
fact_names system = map (λ fact. fact.name) system.facts

-- the names of the events of a system, in their order
abbrev pub event_names : System → List (List ℕ)
event_names system = map (λ event. event.name) system.events

-- the name of a number
abbrev pub name_at : List (List ℕ) → ℕ → List ℕ
name_at names number = slice_index_or names number []

-- a use of a step: `#` and its number plus one
abbrev pub use_text : ℕ → List ℕ
use_text number = 35 ∷ decimal (number + 1)

-- the words of a step behind the name of its fact: the names of its events, and then its uses
abbrev pub later_words : List (List ℕ) → Firing → List (List ℕ)
later_words names step = map (name_at names) step.events ++ map use_text step.uses

-- words, each behind a blank
unfoldable pub behind_blanks : List (List ℕ) → List ℕ
behind_blanks words = flat_map (λ word. 32 ∷ word) words

-- The line of a step without its end, where facts and events have these names: its number plus one, the name of its fact,
-- and its later words, with one blank between.
abbrev pub line_of : List (List ℕ) → List (List ℕ) → ℕ → Firing → List ℕ
line_of facts names number step =
    decimal (number + 1) ++ behind_blanks (name_at facts step.fact ∷ later_words names step)

-- the lines of steps that are numbered from a number on, each with a line feed
abbrev pub lines_of : List (List ℕ) → List (List ℕ) → ℕ → List Firing → List ℕ
lines_of facts names number [] = []
lines_of facts names number (step ∷ steps) =
    line_of facts names number step ++ (10 ∷ lines_of facts names (number + 1) steps)

-- a step of this number has a line: it is of a fact, its events rise and are in the set, and its uses rise and are earlier
pub record HasLine (facts names : List (List ℕ)) (events : NumberSet) (number : ℕ) (step : Firing) : Type 0 where
  pub fact : step.fact < length facts
  pub rising : RisesWithin 0 (length names) step.events
  pub within : list_all events step.events ≡ true
  pub uses : RisesWithin 0 number step.uses

-- each of the steps that are numbered from a number on has a line
abbrev pub HaveLines : List (List ℕ) → List (List ℕ) → NumberSet → ℕ → List Firing → Type 0
HaveLines facts names events number [] = Unit {0}
HaveLines facts names events number (step ∷ steps) =
    HasLine facts names events number step × HaveLines facts names events (number + 1) steps

-- a text is that of steps that have lines
pub record IsTextOf (facts names : List (List ℕ)) (events : NumberSet) (bytes : List ℕ) (steps : List Firing) : Type 0 where
  pub lines : HaveLines facts names events 0 steps
  pub text : bytes ≡ lines_of facts names 0 steps

-- At this place of a text ends the text of some steps, the text goes on there, and it does not go on with a line of a next
-- step: so the place is that of the first bad line.
pub record IsBadAt (facts names : List (List ℕ)) (events : NumberSet) (bytes : List ℕ) (at : ℕ) : Type 0 where
  pub steps : List Firing
  pub rest : List ℕ
  pub lines : HaveLines facts names events 0 steps
  pub text : bytes ≡ lines_of facts names 0 steps ++ rest
  pub place : at ≡ length (lines_of facts names 0 steps)
  pub some : 0 < length rest
  pub bad : (step : Firing) (more : List ℕ) → HasLine facts names events (length steps) step
      → rest ≡ line_of facts names (length steps) step ++ (10 ∷ more) → ⊥
