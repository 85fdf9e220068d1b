-- Small cases of the definitions, worked.
use Rattle.std.proofs.Common.{ℕ, zero, suc, ◌≡◌, ◌∙◌, Bool, true, false, ◌&&◌, ◌||◌, nat_le, List, [], ◌∷◌, Some, refl, ap₂, sym, arith}
use Rattle.std.proofs.lemmas.Bool.{false≢true}
use Rattle.fault_system.specs.Truth.{NumberSet, Has, count_true, set_of, truth}
use Rattle.fault_system.specs.Systems.{System, IsClosed, Holds}
use Rattle.fault_system.specs.CutSets.{IsCutSet}
use Rattle.fault_system.specs.Listings.{IsBefore}
use Rattle.fault_system.specs.inner.Listings.{IsPage}
use Rattle.fault_system.specs.declared.formula.FactInfo.{FactInfo}
use Rattle.fault_system.specs.declared.formula.EventInfo.{EventInfo}
use Rattle.fault_system.specs.declared.formula.Formula.{Formula}
use Rattle.fault_system.specs.declared.formula.Formula.TheVariants.{Event, Fact, And, Or, AtLeast}
use Rattle.fault_system.proofs.TruthLaws.{truth-And, truth-Or, truth-AtLeast, truth-Event, truth-Fact}

abbrev a_fact : List ℕ → Formula → FactInfo
a_fact name formula = record { name = name; owner = 0; formula = formula }

abbrev an_event : List ℕ → EventInfo
an_event name = record { name = name; owner = 0; key = [] }

-- two events, and one fact that needs both
abbrev both_needed : System
both_needed = record { facts = a_fact (98 ∷ []) (And (Event 0 ∷ Event 1 ∷ [])) ∷ []; events = an_event (101 ∷ []) ∷ an_event (102 ∷ []) ∷ [] }

both_truth : (es xs : NumberSet) → truth es xs (And (Event 0 ∷ Event 1 ∷ [])) ≡ es 0 && (es 1 && true)
both_truth es xs = truth-And es xs (Event 0 ∷ Event 1 ∷ []) ∙ ap₂ (λ a b. a && (b && true)) (truth-Event es xs 0) (truth-Event es xs 1)

both_hold : Holds both_needed (set_of (0 ∷ 1 ∷ [])) 0
both_hold facts closed = closed 0 (both_truth (set_of (0 ∷ 1 ∷ [])) facts)

-- under one event alone the empty set of facts is closed, so nothing holds
one_closed : IsClosed both_needed (set_of (0 ∷ [])) (λ _. false)
one_closed zero e = sym (both_truth (set_of (0 ∷ [])) (λ _. false)) ∙ e
one_closed (suc n) e = e

one_fails : Holds both_needed (set_of (0 ∷ [])) 0 → ⊥
one_fails h = false≢true (h (λ _. false) one_closed)

both_cut : IsCutSet both_needed 0 (0 ∷ 1 ∷ [])
both_cut = ((omega arith, omega arith, (omega arith, omega arith, tt)), both_hold)

-- two facts that lead to each other, and an event that begins the loop
abbrev a_loop : System
a_loop = record { facts = a_fact (97 ∷ []) (Or (Fact 1 ∷ Event 0 ∷ [])) ∷ a_fact (98 ∷ []) (Fact 0) ∷ []; events = an_event (101 ∷ []) ∷ [] }

loop_truth : (es xs : NumberSet) → truth es xs (Or (Fact 1 ∷ Event 0 ∷ [])) ≡ xs 1 || (es 0 || false)
loop_truth es xs = truth-Or es xs (Fact 1 ∷ Event 0 ∷ []) ∙ ap₂ (λ a b. a || (b || false)) (truth-Fact es xs 1) (truth-Event es xs 0)

loop_closed : IsClosed a_loop (set_of []) (λ _. false)
loop_closed zero e = sym (loop_truth (set_of []) (λ _. false)) ∙ e
loop_closed (suc zero) e = sym (truth-Fact (set_of []) (λ _. false) 0) ∙ e
loop_closed (suc (suc n)) e = e

loop_alone : Holds a_loop (set_of []) 1 → ⊥
loop_alone h = false≢true (h (λ _. false) loop_closed)

loop_begun : Holds a_loop (set_of (0 ∷ [])) 1
loop_begun facts closed =
    let first : Has facts 0 = closed 0 (loop_truth (set_of (0 ∷ [])) facts ∙ either_true (facts 1)) in
    closed 1 (truth-Fact (set_of (0 ∷ [])) facts 0 ∙ first)
  where
    either_true : (b : Bool) → b || true ≡ true
    either_true true = refl
    either_true false = refl

-- two of three places, of which one event has two
twice : (xs : NumberSet) → truth (set_of (1 ∷ [])) xs (AtLeast 2 (Event 1 ∷ Event 1 ∷ Event 2 ∷ [])) ≡ true
twice xs = truth-AtLeast (set_of (1 ∷ [])) xs 2 (Event 1 ∷ Event 1 ∷ Event 2 ∷ [])
    ∙ ap₂ (λ a b. nat_le 2 (count_true (a ∷ a ∷ b ∷ []))) (truth-Event (set_of (1 ∷ [])) xs 1) (truth-Event (set_of (1 ∷ [])) xs 2)

-- fewer events come first, and then the smaller number at the first difference
fewer_first : IsBefore (5 ∷ []) (0 ∷ 1 ∷ [])
fewer_first = refl

smaller_first : IsBefore (0 ∷ 2 ∷ 7 ∷ []) (0 ∷ 3 ∷ 4 ∷ [])
smaller_first = refl

-- a page of one set after the first of three, and one set follows it
second_page : IsPage ([] ∷ (0 ∷ []) ∷ (1 ∷ []) ∷ []) (Some []) (Some 1) ((0 ∷ []) ∷ []) true
second_page = record { page_is = refl; more_is = refl }
