-- The texts of derivations on a system, and of their check, as phases.
use Rattle.std.specs.Prelude.{◌≡◌, ◌⊎◌, ℕ, List, [], ◌∷◌, ◌++◌, Some, codes, decimal, length, take}
use Rattle.phases.specs.Phases.{Phase, yields, rejects, ◌>>=◌}
use Rattle.plain_values.specs.declared.refusal.Code.TheVariants.{BadStepLine, NotCutSet, WrongEnd, WrongStep}
use Rattle.plain_values.specs.declared.refusal.Place.TheVariants.{At, Whole}
use Rattle.plain_values.specs.declared.refusal.Refusal.{Refusal}
use Rattle.plain_values.specs.Refusal.{of_words, refusal}
use Rattle.fault_system.specs.Truth.{NumberSet, set_of}
use Rattle.fault_system.specs.Systems.{System, Holds}
use Rattle.cutset_lister.specs.SetText.{IsSetOfText}
use Rattle.derivations.specs.declared.derivation.Firing.{Firing}
use Rattle.derivations.specs.Derived.{IsByRounds}
use Rattle.derivations.specs.Steps.{HasWrongEnd, IsFirstWrong, IsGood}
use Rattle.derivations.specs.Text.{IsBadAt, IsTextOf, event_names, fact_names, lines_of}
use Rattle.system_answers.specs.Targets.{LacksStart}
use Rattle.system_answers.specs.Texts.{target_of}

-- the set of events that has this text
abbrev pub set_of_text : List ℕ → System → Phase (List ℕ)
set_of_text text system = rejects (IsSetOfText system text) (LacksStart system (Some text))

-- The target holds under a set of events, and these are the steps of its derivation by rounds.
pub record IsWhy (system : System) (events : NumberSet) (target : ℕ) (steps : List Firing) : Type 0 where
  pub holds : Holds system events target
  pub derived : IsByRounds system events target steps

-- K3: the target does not hold under a set of events.
abbrev pub LacksWhy : System → NumberSet → ℕ → Refusal → Type 0
LacksWhy system events target its = (Holds system events target → ⊥) × (its ≡ of_words NotCutSet)

-- the derivation of a target under a set of events
abbrev pub derivation_of : ℕ → NumberSet → System → Phase (List Firing)
derivation_of number events system = rejects (IsWhy system events number) (LacksWhy system events number)

-- the lines of the steps of a derivation
abbrev pub steps_text : System → List Firing → List ℕ
steps_text system steps = lines_of (fact_names system) (event_names system) 0 steps

-- the lines of the derivation of a target under a set of events
abbrev pub lines_why : ℕ → NumberSet → System → Phase (List ℕ)
lines_why number events system = do
  steps ← derivation_of number events system
  yields (steps_text system steps)

-- the text of `why`
abbrev pub why_text : List ℕ → List ℕ → System → Phase (List ℕ)
why_text target text system = do
  number ← target_of target system
  set ← set_of_text text system
  lines_why number (set_of set) system

-- V1: a line of a text is that of no next step; the text is that of the file of the number 0.
abbrev pub LacksSteps : System → NumberSet → List ℕ → Refusal → Type 0
LacksSteps system events bytes its =
    (at : ℕ) × IsBadAt (fact_names system) (event_names system) events bytes at × (its ≡ refusal BadStepLine (At 0 at))

-- the steps of a text, whose events are of a set
abbrev pub steps_of : NumberSet → List ℕ → System → Phase (List Firing)
steps_of events bytes system = rejects (IsTextOf (fact_names system) (event_names system) events bytes) (LacksSteps system events bytes)

-- V2: a step is the first that is not right, at its line.
abbrev pub HasWrongStep : System → NumberSet → List Firing → Refusal → Type 0
HasWrongStep system events steps its =
    (number : ℕ) × IsFirstWrong system events steps number
    × (its ≡ refusal WrongStep (At 0 (length (steps_text system (take number steps)))))

-- V2, V3: a step is not right; or each is, but there is none, or the last one is not of the target.
abbrev pub IsNotGood : System → ℕ → NumberSet → List Firing → Refusal → Type 0
IsNotGood system target events steps its =
    HasWrongStep system events steps its ⊎ (HasWrongEnd system target events steps × (its ≡ refusal WrongEnd (Whole 0)))

-- steps that are a good derivation of a target under a set of events
abbrev pub good_steps : ℕ → NumberSet → List Firing → System → Phase (Unit {0})
good_steps number events steps system = rejects (λ _. IsGood system number events steps) (IsNotGood system number events steps)

-- what is written where a derivation of so many steps is good
abbrev pub accepted_text : ℕ → List ℕ
accepted_text count = codes "accepted " ++ decimal count ++ 10 ∷ []

-- what is written of a text whose steps are a good derivation of a target under a set of events
abbrev pub answer_confirmed : ℕ → NumberSet → List ℕ → System → Phase (List ℕ)
answer_confirmed number events bytes system = do
  steps ← steps_of events bytes system
  _ ← good_steps number events steps system
  yields (accepted_text (length steps))

-- the text of `confirm`
abbrev pub confirm_text : List ℕ → List ℕ → List ℕ → System → Phase (List ℕ)
confirm_text target text bytes system = do
  number ← target_of target system
  set ← set_of_text text system
  answer_confirmed number (set_of set) bytes system
