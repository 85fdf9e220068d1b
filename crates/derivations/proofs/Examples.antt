-- Worked derivations: two units that feed each other, of which the first fails by its own event.
use Rattle.std.proofs.Common.{ℕ, zero, suc, ◌≡◌, true, false, ◌&&◌, ◌||◌, List, [], ◌∷◌, length, take, codes, Option, Some, None, refl, arith}
use Rattle.std.specs.Fmt.{digits}
use Rattle.fault_system.specs.Truth.{NumberSet, set_of, truth}
use Rattle.fault_system.specs.Systems.{System, Holds}
use Rattle.fault_system.specs.declared.formula.FactInfo.{FactInfo}
use Rattle.fault_system.specs.declared.formula.Formula.{Formula}
use Rattle.fault_system.specs.declared.formula.Formula.TheVariants.{True, Event, Fact, And, Or}
use Rattle.fault_system.proofs.TruthLaws.{truth-True, truth-And, truth-Or, truth-Event, truth-Fact}
use Rattle.derivations.specs.declared.derivation.Firing.{Firing}
use Rattle.derivations.specs.Steps.{AreRight, IsGood, IsFirstWrong, HasWrongEnd, is_right_at}
use Rattle.derivations.specs.Text.{behind_blanks, event_names, fact_names, lines_of}
use Rattle.derivations.specs.inner.Reading.{step_of}
use Rattle.derivations.proofs.Sound.{good-holds}

abbrev a_fact : List ℕ → Formula → FactInfo
a_fact name formula = record { name = name; owner = 0; formula = formula }

-- a state that is reached from a state by an event, or by what comes in
abbrev bad_unit : ℕ → ℕ → ℕ → Formula
bad_unit from event input = Or (And (Fact from ∷ Or (Event event ∷ Or (Fact input ∷ []) ∷ []) ∷ []) ∷ [])

abbrev only : ℕ → Formula
only fact = Or (And (Fact fact ∷ []) ∷ [])

abbrev two_units : System
two_units = record {
  facts =
      a_fact (codes "root/state:ok") True
      ∷ a_fact (codes "root/state:bad") (Or (And (Fact 3 ∷ Fact 7 ∷ []) ∷ []))
      ∷ a_fact (codes "root.a/state:ok") True
      ∷ a_fact (codes "root.a/state:bad") (bad_unit 2 0 4)
      ∷ a_fact (codes "root.a/in:i{q::t}") (Or (Fact 9 ∷ []))
      ∷ a_fact (codes "root.a/out:o{q::t}") (only 3)
      ∷ a_fact (codes "root.b/state:ok") True
      ∷ a_fact (codes "root.b/state:bad") (bad_unit 6 1 8)
      ∷ a_fact (codes "root.b/in:i{q::t}") (Or (Fact 5 ∷ []))
      ∷ a_fact (codes "root.b/out:o{q::t}") (only 7)
      ∷ [];
  events =
      record { name = codes "root.a/e"; owner = 1; key = [] }
      ∷ record { name = codes "root.b/e"; owner = 2; key = [] }
      ∷ [];
}

-- the set of the first event
abbrev first_event : NumberSet
first_event = set_of (0 ∷ [])

abbrev a_step : ℕ → List ℕ → List ℕ → Firing
a_step fact events uses = record { fact = fact; events = events; uses = uses }

abbrev worked_steps : List Firing
worked_steps =
    a_step 2 [] []
    ∷ a_step 6 [] []
    ∷ a_step 3 (0 ∷ []) (0 ∷ [])
    ∷ a_step 5 [] (2 ∷ [])
    ∷ a_step 8 [] (3 ∷ [])
    ∷ a_step 7 [] (1 ∷ 4 ∷ [])
    ∷ a_step 1 [] (2 ∷ 5 ∷ [])
    ∷ []

module _ (es xs : NumberSet) where
  truth-only : (n : ℕ) → truth es xs (only n) ≡ (xs n && true) || false
  truth-only n = simp (truth-Or es xs, truth-And es xs, truth-Fact es xs) refl

  truth-one : (n : ℕ) → truth es xs (Or (Fact n ∷ [])) ≡ xs n || false
  truth-one n = simp (truth-Or es xs, truth-Fact es xs) refl

  truth-two : (n m : ℕ) → truth es xs (Or (And (Fact n ∷ Fact m ∷ []) ∷ [])) ≡ (xs n && (xs m && true)) || false
  truth-two n m = simp (truth-Or es xs, truth-And es xs, truth-Fact es xs) refl

  truth-bad : (n e m : ℕ) → truth es xs (bad_unit n e m) ≡ (xs n && ((es e || ((xs m || false) || false)) && true)) || false
  truth-bad n e m = simp (truth-Or es xs, truth-And es xs, truth-Fact es xs, truth-Event es xs) refl

worked_right : AreRight two_units first_event worked_steps 7
worked_right zero h = truth-True _ _
worked_right (suc zero) h = truth-True _ _
worked_right (suc (suc zero)) h = truth-bad _ _ 2 0 4
worked_right (suc (suc (suc zero))) h = truth-only _ _ 3
worked_right (suc (suc (suc (suc zero)))) h = truth-one _ _ 5
worked_right (suc (suc (suc (suc (suc zero))))) h = truth-bad _ _ 6 1 8
worked_right (suc (suc (suc (suc (suc (suc zero)))))) h = truth-two _ _ 3 7
worked_right (suc (suc (suc (suc (suc (suc (suc n))))))) h = absurd (omega arith)

worked_good : IsGood two_units 1 first_event worked_steps
worked_good = record { right = worked_right; end = refl }

worked_holds : Holds two_units first_event 1
worked_holds = good-holds two_units 1 first_event worked_steps worked_good

-- without the use of its third step that step is the first wrong one, and its line begins at byte 36
abbrev without_a_use : List Firing
without_a_use = a_step 2 [] [] ∷ a_step 6 [] [] ∷ a_step 3 (0 ∷ []) [] ∷ []

first_two : AreRight two_units first_event without_a_use 2
first_two zero h = truth-True _ _
first_two (suc zero) h = truth-True _ _
first_two (suc (suc n)) h = absurd (omega arith)

third_wrong : IsFirstWrong two_units first_event without_a_use 2
third_wrong = record { within = omega arith; wrong = truth-bad _ _ 2 0 4; before = first_two }

third_place : length (lines_of (fact_names two_units) (event_names two_units) 0 (take 2 without_a_use)) ≡ 36
unfolding behind_blanks digits
third_place = refl

-- a step that uses itself, or an event outside of the set, is wrong
uses_itself : is_right_at two_units first_event (a_step 5 [] (0 ∷ []) ∷ []) 0 ≡ false
uses_itself = refl

other_event : is_right_at two_units first_event (a_step 2 (1 ∷ []) [] ∷ []) 0 ≡ false
other_event = refl

-- no step, or a last one of another fact, is a wrong end
no_step : HasWrongEnd two_units 1 first_event []
no_step = record { right = λ n h. absurd (omega arith); end = refl }

other_end : HasWrongEnd two_units 1 first_event (a_step 2 [] [] ∷ a_step 6 [] [] ∷ [])
other_end = record { right = both_right; end = refl }
  where
    both_right : AreRight two_units first_event (a_step 2 [] [] ∷ a_step 6 [] [] ∷ []) 2
    both_right zero h = truth-True _ _
    both_right (suc zero) h = truth-True _ _
    both_right (suc (suc n)) h = absurd (omega arith)

-- the text of the worked derivation
worked_text : lines_of (fact_names two_units) (event_names two_units) 0 worked_steps
    ≡ codes "1 root.a/state:ok\n2 root.b/state:ok\n3 root.a/state:bad root.a/e #1\n4 root.a/out:o{q::t} #3\n5 root.b/in:i{q::t} #4\n6 root.b/state:bad #2 #5\n7 root/state:bad #3 #6\n"
unfolding behind_blanks digits
worked_text = refl

-- the step of a line of a number
abbrev read : ℕ → List ℕ → Option Firing
read number line = step_of (fact_names two_units) (event_names two_units) first_event number line

third_line : read 2 (codes "3 root.a/state:bad root.a/e #1") ≡ Some (a_step 3 (0 ∷ []) (0 ∷ []))
unfolding behind_blanks digits
third_line = refl

-- lines that are not of the form
other_number : read 0 (codes "3 root.a/state:ok") ≡ None
unfolding behind_blanks digits
other_number = refl

zero_in_front : read 0 (codes "01 root.a/state:ok") ≡ None
unfolding behind_blanks digits
zero_in_front = refl

number_alone : read 0 (codes "1") ≡ None
unfolding behind_blanks digits
number_alone = refl

no_text : read 0 [] ≡ None
unfolding behind_blanks digits
no_text = refl

front_of_a_name : read 0 (codes "1 root.a/state:o") ≡ None
unfolding behind_blanks digits
front_of_a_name = refl

later_use : read 1 (codes "2 root.b/state:ok #2") ≡ None
unfolding behind_blanks digits
later_use = refl

zero_use : read 1 (codes "2 root.b/state:ok #0") ≡ None
unfolding behind_blanks digits
zero_use = refl

use_with_zero : read 1 (codes "2 root.b/state:ok #01") ≡ None
unfolding behind_blanks digits
use_with_zero = refl

use_without_number : read 1 (codes "2 root.b/state:ok #") ≡ None
unfolding behind_blanks digits
use_without_number = refl

use_twice : read 2 (codes "3 root.b/state:ok #1 #1") ≡ None
unfolding behind_blanks digits
use_twice = refl

falling_uses : read 2 (codes "3 root.b/state:ok #2 #1") ≡ None
unfolding behind_blanks digits
falling_uses = refl

event_behind_a_use : read 1 (codes "2 root.b/state:ok #1 root.a/e") ≡ None
unfolding behind_blanks digits
event_behind_a_use = refl

event_twice : read 0 (codes "1 root.a/state:bad root.a/e root.a/e") ≡ None
unfolding behind_blanks digits
event_twice = refl

event_outside : read 0 (codes "1 root.a/state:bad root.b/e") ≡ None
unfolding behind_blanks digits
event_outside = refl

two_blanks : read 0 (codes "1  root.a/state:ok") ≡ None
unfolding behind_blanks digits
two_blanks = refl

blank_behind : read 0 (codes "1 root.a/state:ok ") ≡ None
unfolding behind_blanks digits
blank_behind = refl
