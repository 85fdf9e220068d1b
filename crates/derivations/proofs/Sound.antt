-- A good derivation of a target shows that the target holds.
use Rattle.std.proofs.Common.{ℕ, zero, suc, ◌+◌, ◌-◌, ◌≡◌, ◌<◌, ◌⊎◌, Bool, true, false, nat_lt, List, [], ◌∷◌, length, slice_get, map, Option, Some, None, ap, ◌∙◌, sym, refl, subst, arith, leb-true, inl, inr, ⊎_elim, if◌then◌else◌}
use Rattle.std.proofs.lemmas.Bool.{false≢true, eqb-true, and_parts, or_cases}
use Rattle.std.specs.List.{list_all}
use Rattle.fault_system.specs.Truth.{NumberSet, Has, member, set_of, truth}
use Rattle.fault_system.specs.Systems.{System, IsClosed, Holds}
use Rattle.fault_system.specs.declared.formula.FactInfo.{FactInfo}
use Rattle.fault_system.proofs.Occurring.{truth-grows}
use Rattle.fault_system.proofs.NumberSets.{list_all-at}
use Rattle.derivations.specs.declared.derivation.Firing.{Firing}
use Rattle.derivations.specs.declared.derivation.Finding.{Finding}
use Rattle.derivations.specs.declared.derivation.Finding.TheVariants.{Good, WrongEnd}
use Rattle.derivations.specs.Steps.{is_of, facts_of, is_made_true, is_right, AreRight, ends_with, IsGood}

-- a fact whose formula is made true by some events and facts is made true by more of them
made-closed : (facts : List FactInfo) (n : ℕ) (es fs : NumberSet) → is_made_true (slice_get facts n) es fs ≡ true → (es' fs' : NumberSet) → ((k : ℕ) → Has es k → Has es' k) → ((k : ℕ) → Has fs k → Has fs' k) → Has (member (map (λ fact. truth es' fs' fact.formula) facts)) n
made-closed [] n es fs e es' fs' he hf = absurd (false≢true e)
made-closed (fact ∷ facts) zero es fs e es' fs' he hf = truth-grows es es' fs fs' he hf fact.formula e
made-closed (fact ∷ facts) (suc n) es fs e es' fs' he hf = made-closed facts n es fs e es' fs' he hf

module _ (system : System) (events : NumberSet) (steps : List Firing) (right : AreRight system events steps (length steps)) (closed : NumberSet) (is_closed : IsClosed system events closed) where
  -- where there is a step, its fact is in the closed set
  In : Option Firing → Type 0
  In None = Unit {0}
  In (Some step) = Has closed step.fact

  -- so it is with each step before this one
  abbrev Before : ℕ → Type 0
  Before number = (n : ℕ) → n < number → In (slice_get steps n)

  of_step : (fact : ℕ) (o : Option Firing) → is_of fact o ≡ true → In o → Has closed fact
  unfolding In
  of_step fact None e i = absurd (false≢true e)
  of_step fact (Some step) e i = subst (Has closed) (eqb-true step.fact fact e) i

  used : (number : ℕ) → Before number → (uses : List ℕ) → list_all (λ earlier. nat_lt earlier number) uses ≡ true → (fact : ℕ) → Has (facts_of steps uses) fact → Has closed fact
  used number before [] e fact h = absurd (false≢true h)
  used number before (use_one ∷ uses) e fact h =
      let parts = and_parts _ _ e in
      ⊎_elim (λ here. of_step fact (slice_get steps use_one) here (before use_one (leb-true _ _ parts.0))) (λ later. used number before uses parts.1 fact later) (or_cases _ _ h)

  one_step : (number : ℕ) → Before number → (o : Option Firing) → is_right system events steps number o ≡ true → In o
  unfolding In
  one_step number before None e = absurd (false≢true e)
  one_step number before (Some step) e =
      let parts = and_parts _ _ e in
      let more = and_parts _ _ parts.1 in
      is_closed step.fact (made-closed system.facts step.fact (set_of step.events) (facts_of steps step.uses) more.1 events closed (λ n there. list_all-at events step.events n parts.0 there) (used number before step.uses more.0))

  below : (number : ℕ) → number < length steps + 1 → Before number
  below zero h n l = absurd (omega arith)
  below (suc number) h n l =
      ⊎_elim (λ earlier. below number (omega arith) n earlier)
      (λ same. subst (λ k. In (slice_get steps k)) (sym same) (one_step number (below number (omega arith)) (slice_get steps number) (right number (omega arith))))
      (earlier_or_same n number l)
    where
      earlier_or_same : (n number : ℕ) → n < suc number → (n < number) ⊎ (n ≡ number)
      earlier_or_same zero zero l = inr refl
      earlier_or_same zero (suc number) l = inl (omega arith)
      earlier_or_same (suc n) zero l = absurd (omega arith)
      earlier_or_same (suc n) (suc number) l = ⊎_elim (λ a. inl (omega arith)) (λ b. inr (ap suc b)) (earlier_or_same n number (omega arith))

  last-closed : (target : ℕ) → 0 < length steps → ends_with steps target ≡ true → Has closed target
  last-closed target some e = of_step target (slice_get steps (length steps - 1)) e (below (length steps) (omega arith) (length steps - 1) (omega arith))

some_step : (steps : List Firing) (target : ℕ) → ends_with steps target ≡ true → 0 < length steps
some_step [] target e = absurd (false≢true e)
some_step (step ∷ steps) target e = omega arith

-- each closed set of facts has the facts of all steps, one after the other, and so the target
pub good-holds : (system : System) (target : ℕ) (events : NumberSet) (steps : List Firing) → IsGood system target events steps → Holds system events target
good-holds system target events steps good closed is_closed = last-closed system events steps good.right closed is_closed target (some_step steps target good.end) good.end

pub ended : (b : Bool) (found : Finding) → found ≡ (if b then Good else WrongEnd) → found ≡ Good → b ≡ true
ended true found is e = refl
ended false found is e = let no_end : WrongEnd ≡ Good = sym is ∙ e in cc
