-- One end at most passes of the texts of derivations and of their check; what is written of a target is confirmed of it.
use Rattle.std.proofs.Common.{◌≡◌, ◌+◌, ◌<◌, ◌≤◌, ◌^◌, ℕ, zero, suc, List, [], ◌∷◌, length, length-append, take, Some, refl, sym, ap, subst, ◌∙◌, arith, ⊎_elim, inl, inr}
use Rattle.std.proofs.lemmas.Bool.{false≢true, cases_order}
use Rattle.plain_values.specs.declared.refusal.Code.TheVariants.{BadStepLine, WrongStep}
use Rattle.plain_values.specs.declared.refusal.Place.TheVariants.{At}
use Rattle.plain_values.specs.declared.refusal.Refusal.{Refusal}
use Rattle.plain_values.specs.Refusal.{refusal}
use Rattle.fault_system.specs.Truth.{NumberSet, set_of}
use Rattle.fault_system.specs.Systems.{Holds, IsSystem, System}
use Rattle.cutset_lister.specs.SetText.{IsSetOfText}
use Rattle.cutset_lister.specs.inner.SetText.{HasTokenNames}
use Rattle.cutset_lister.proofs.Scans.{one-set}
use Rattle.derivations.specs.declared.derivation.Firing.{Firing}
use Rattle.derivations.specs.Steps.{HasWrongEnd, IsFirstWrong, IsGood}
use Rattle.derivations.specs.Text.{IsBadAt, IsTextOf, event_names, fact_names, line_of, lines_of}
use Rattle.derivations.specs.inner.Text.{AreLineNames}
use Rattle.derivations.proofs.OneDerivation.{long-text, one-bad, one-derivation, one-reading, read-or-bad}
use Rattle.derivations.proofs.Sound.{good-holds}
use Rattle.derivations.proofs.WhyText.{confirmed-text}
use Rattle.phases.specs.Phases.{Passes}
use Rattle.phases.specs.inner.Phases.{IsDecided}
use Rattle.phases.specs.declared.status.Status.{Status}
use Rattle.phases.specs.declared.status.Status.TheVariants.{Refused}
use Rattle.phases.proofs.Leaves.{decided_rejects}
use Rattle.system_answers.specs.Targets.{IsFactNamed, LacksStart}
use Rattle.system_answers.specs.Derivations.{IsNotGood, IsWhy, LacksSteps, LacksWhy, accepted_text, answer_confirmed, confirm_text, lines_why, set_of_text, steps_text, why_text}
use Rattle.system_answers.proofs.Decided.{target_decided}

-- one step at most is the first that is not right
no-earlier : (system : System) (events : NumberSet) (steps : List Firing) (m n : ℕ) → IsFirstWrong system events steps m → IsFirstWrong system events steps n → m < n → ⊥
no-earlier system events steps m n x y less = false≢true (sym x.wrong ∙ y.before m less)

one-wrong : (system : System) (events : NumberSet) (steps : List Firing) (m n : ℕ) → IsFirstWrong system events steps m → IsFirstWrong system events steps n → m ≡ n
one-wrong system events steps m n x y =
    ⊎_elim (λ same. same)
    (λ differ. ⊎_elim (λ l. absurd (no-earlier system events steps m n x y l)) (λ g. absurd (no-earlier system events steps n m y x g)) differ)
    (cases_order m n)

module _ (system : System) (target : ℕ) (events : NumberSet) (steps : List Firing) where
  good-or-not : (its : Refusal) → IsGood system target events steps → IsNotGood system target events steps its → ⊥
  good-or-not its good (inl wrong) = false≢true (sym wrong.1.wrong ∙ good.right wrong.0 wrong.1.within)
  good-or-not its good (inr wrong) = false≢true (sym wrong.0.end ∙ good.end)

  wrong-or-end : (n : ℕ) → IsFirstWrong system events steps n → HasWrongEnd system target events steps → ⊥
  wrong-or-end n wrong end = false≢true (sym wrong.wrong ∙ end.right n wrong.within)

  one-fault : (a b : Refusal) → IsNotGood system target events steps a → IsNotGood system target events steps b → a ≡ b
  one-fault a b (inl x) (inl y) = x.2 ∙ ap (λ n. refusal WrongStep (At 0 (length (steps_text system (take n steps))))) (one-wrong system events steps x.0 y.0 x.1 y.1) ∙ sym y.2
  one-fault a b (inl x) (inr y) = absurd (wrong-or-end x.0 x.1 y.0)
  one-fault a b (inr x) (inl y) = absurd (wrong-or-end y.0 y.1 x.0)
  one-fault a b (inr x) (inr y) = x.1 ∙ sym y.1

-- texts are decided up to what is the same of statuses
module _ (Same : Status → Status → Type 0) (itself : (status : Status) → Same status status) where
  same_refusal : (a b : Refusal) → a ≡ b → Same (Refused a) (Refused b)
  same_refusal a b is = subst (λ r. Same (Refused a) (Refused r)) is (itself (Refused a))

  set_decided : (text : List ℕ) (system : System) → IsSystem system → HasTokenNames system → IsDecided Same (set_of_text text system)
  set_decided text system is names =
      decided_rejects Same (IsSetOfText system text) (LacksStart system (Some text))
      (λ a b h k. one-set system text a b is names h k)
      (λ set refusal has lacks. lacks.0 set has)
      (λ a b h k. same_refusal a b (h.1 ∙ sym k.1))

  lines_decided : (number : ℕ) (events : NumberSet) (system : System) → IsDecided Same (lines_why number events system)
  lines_decided number events system = (
    decided_rejects Same (IsWhy system events number) (LacksWhy system events number)
        (λ a b h k. one-derivation system number events a b h.derived k.derived)
        (λ steps refusal why lacks. lacks.0 why.holds)
        (λ a b h k. same_refusal a b (h.1 ∙ sym k.1)),
    λ steps why. tt,
  )

  pub why_decided : (target text : List ℕ) (system : System) → IsSystem system → HasTokenNames system → IsDecided Same (why_text target text system)
  why_decided target text system is names =
      (target_decided Same itself target system, λ number named. (set_decided text system is names, λ set has. lines_decided number (set_of set) system))

  module _ (bytes : List ℕ) (system : System) (is : IsSystem system) (its_facts : AreLineNames (fact_names system)) (its_events : AreLineNames (event_names system)) (short : length bytes ≤ 4194304) where
    few : length bytes < 2 ^ 32
    few = omega (arith, short)

    answer_decided : (number : ℕ) (events : NumberSet) → IsDecided Same (answer_confirmed number events bytes system)
    answer_decided number events = (
      decided_rejects Same (IsTextOf (fact_names system) (event_names system) events bytes) (LacksSteps system events bytes)
          (one-reading (fact_names system) (event_names system) events is.facts_named is.events_named its_facts its_events bytes few)
          (λ steps refusal read lacks. read-or-bad (fact_names system) (event_names system) events is.facts_named is.events_named its_facts its_events bytes few steps lacks.0 read lacks.1)
          (λ a b x y. same_refusal a b (x.2 ∙ ap (λ at. refusal BadStepLine (At 0 at)) (one-bad (fact_names system) (event_names system) events is.facts_named is.events_named its_facts its_events bytes few x.0 y.0 x.1 y.1) ∙ sym y.2)),
      λ steps read. (
        decided_rejects {A = Unit {0}} Same (λ _. IsGood system number events steps) (IsNotGood system number events steps)
            (λ a b h k. refl)
            (λ a its good bad. good-or-not system number events steps its good bad)
            (λ a b h k. same_refusal a b (one-fault system number events steps a b h k)),
        λ _ good. tt,
      ),
    )

    pub confirm_decided : (target text : List ℕ) → HasTokenNames system → IsDecided Same (confirm_text target text bytes system)
    confirm_decided target text names =
        (target_decided Same itself target system, λ number named. (set_decided text system is names, λ set has. answer_decided number (set_of set)))

-- the text of the first steps is no longer than that of all
pub part-short : (facts names : List (List ℕ)) (first n : ℕ) (steps : List Firing) → length (lines_of facts names first (take n steps)) ≤ length (lines_of facts names first steps)
part-short facts names first zero steps = omega arith
part-short facts names first (suc n) [] = omega arith
part-short facts names first (suc n) (step ∷ steps) =
    let line = line_of facts names first step in
    let part = lines_of facts names (first + 1) (take n steps) in
    let more = lines_of facts names (first + 1) steps in
    omega (arith, length-append line (10 ∷ part), length-append line (10 ∷ more), part-short facts names (first + 1) n steps)

-- a bad place is in the text
pub bad-within : (facts names : List (List ℕ)) (events : NumberSet) (bytes : List ℕ) (at : ℕ) → length bytes ≤ 4194304 → IsBadAt facts names events bytes at → at < 2 ^ 32
bad-within facts names events bytes at short bad =
    let front = lines_of facts names 0 bad.steps in
    let long : length bytes ≡ length front + length bad.rest = ap length bad.text ∙ length-append front bad.rest in
    omega (arith, long, bad.place, short)

-- the steps of a text are few
pub few-steps : (facts names : List (List ℕ)) (events : NumberSet) (bytes : List ℕ) (steps : List Firing) → length bytes ≤ 4194304 → IsTextOf facts names events bytes steps → length steps < 2 ^ 32
few-steps facts names events bytes steps short is = omega (arith, long-text facts names 0 steps, ap length is.text, short)

-- a line of a text begins in it
pub step-within : (facts names : List (List ℕ)) (events : NumberSet) (bytes : List ℕ) (steps : List Firing) (n : ℕ) → length bytes ≤ 4194304 → IsTextOf facts names events bytes steps → length (lines_of facts names 0 (take n steps)) < 2 ^ 32
step-within facts names events bytes steps n short is = omega (arith, part-short facts names 0 n steps, ap length is.text, short)

-- what is written of a target is confirmed of it
pub why-confirmed : (system : System) (target text lines : List ℕ) → IsSystem system → Passes (why_text target text system) lines → (count : ℕ) × Passes (confirm_text target text lines system) (accepted_text count)
why-confirmed system target text lines is passes =
    let number = passes.passed.0 in
    let set = passes.passed.2.0 in
    let steps = passes.passed.2.2.0 in
    let why = passes.passed.2.2.1 in
    let good = confirmed-text system number (set_of set) steps is why.holds why.derived in
    let its : IsTextOf (fact_names system) (event_names system) (set_of set) lines steps = subst (λ bytes. IsTextOf (fact_names system) (event_names system) (set_of set) bytes steps) (sym passes.passed.2.2.2) good.text in
    (length steps, record { passed = (number, passes.passed.1, (set, passes.passed.2.1, (steps, its, (tt, good.good, refl)))) })

-- where a text is accepted, the target holds
pub accepted-holds : (system : System) (target text bytes answer : List ℕ) → Passes (confirm_text target text bytes system) answer → (number : ℕ) × (set : List ℕ) × IsFactNamed system target number × IsSetOfText system text set × Holds system (set_of set) number
accepted-holds system target text bytes answer passes =
    let number = passes.passed.0 in
    let set = passes.passed.2.0 in
    let steps = passes.passed.2.2.0 in
    (number, set, passes.passed.1, passes.passed.2.1, good-holds system number (set_of set) steps passes.passed.2.2.2.1)
