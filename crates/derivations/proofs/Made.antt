-- The steps that are made are the derivation.
use Rattle.std.proofs.Common.{ℕ, ◌≡◌, ◌<◌, Bool, true, List, length, slice_get, slice_index_or, Option, Some, None, AllPairs, ap, ◌∙◌, sym, refl, subst, arith}
use Rattle.std.proofs.lemmas.Bool.{false≢true, and_parts}
use Rattle.std.proofs.lemmas.List.{get_or-map, length-map}
use Rattle.std.proofs.lemmas.Option.{slice_get-get_or}
use Rattle.fault_system.specs.Truth.{NumberSet, Has, set_of, occurs_event}
use Rattle.fault_system.specs.Systems.{System, IsSystem}
use Rattle.fault_system.specs.declared.formula.FactInfo.{FactInfo}
use Rattle.fault_system.proofs.Occurrences.{occurs_event-in_range, fact-in_range}
use Rattle.derivations.specs.declared.derivation.Firing.{Firing}
use Rattle.derivations.specs.Derived.{IsDerivation, IsReached, comes_before, is_used_by, of_formula, uses_event, uses_fact}
use Rattle.derivations.specs.inner.Reaching.{AreReached}
use Rattle.derivations.specs.inner.Ordered.{HasSteps, IsMade, IsOrder, place_at}
use Rattle.derivations.proofs.NumbersIn.{are-numbers, at-found, found-at}

-- an event that occurs in the formula of a fact is one of the system
pub event-fits : (system : System) → IsSystem system → (fact event : ℕ) (o : Option FactInfo) → slice_get system.facts fact ≡ o → of_formula (occurs_event event) o ≡ true → event < length system.events
event-fits system is fact event None at e = absurd (false≢true e)
event-fits system is fact event (Some info) at e = occurs_event-in_range (length system.facts) (length system.events) event info.formula (fact-in_range system is fact info at) e

module _ (system : System) (events : NumberSet) (rounds : List ℕ) (target : ℕ) (marks : List Bool) (order : List ℕ) (steps : List Firing) (is_system : IsSystem system) (reached : AreReached system rounds target marks) (is_order : IsOrder rounds marks order) (has : HasSteps system events rounds order steps) where
  long : length steps ≡ length order
  long = sym (length-map steps (λ step. step.fact)) ∙ ap length has.are_made.facts

  -- the fact of a step is that of its place
  step-fact : (k : ℕ) (d : Firing) → k < length steps → (slice_index_or steps k d).fact ≡ place_at order k
  step-fact k d h = sym (get_or-map (λ (step : Firing). step.fact) steps k d 0 h) ∙ ap (λ facts. place_at facts k) has.are_made.facts

  step-reached : (k : ℕ) (d : Firing) → k < length steps → IsReached system rounds target (slice_index_or steps k d).fact
  step-reached k d h = reached.into _ (is_order.into _ (subst (Has (set_of order)) (sym (step-fact k d h)) (at-found order k (omega (arith, long)))))

  -- what a step uses that is of a fact that is reached
  module _ (step : Firing) (here : IsReached system rounds target step.fact) (made : IsMade system events rounds has.places step) where
    abbrev used_at : NumberSet
    used_at number = is_used_by system rounds step.fact (slice_get steps number)

    use-into : (n : ℕ) → Has (set_of step.uses) n → (n < length steps) × Has used_at n
    use-into n h =
        let it = made.each_use n h in
        let other_reached : IsReached system rounds target it.0 = λ set first closed. closed step.fact it.0 (here set first closed) it.1 in
        let at = found-at order it.0 (is_order.all it.0 (reached.all it.0 other_reached)) in
        let same : at.0 ≡ n = sym (has.are_places.each at.0 at.1) ∙ ap (place_at has.places) at.2 ∙ it.2 in
        let fits : n < length steps = omega (arith, long, at.1, same) in
        let fact_is : (slice_index_or steps n step).fact ≡ it.0 = step-fact n step fits ∙ ap (place_at order) (sym same) ∙ at.2 in
        (fits, ap (is_used_by system rounds step.fact) (slice_get-get_or steps n step fits) ∙ ap (uses_fact system rounds step.fact) fact_is ∙ it.1)

    use-all : (n : ℕ) → n < length steps → Has used_at n → Has (set_of step.uses) n
    use-all n fits used =
        let of_fact : Has (uses_fact system rounds step.fact) (slice_index_or steps n step).fact = sym (ap (is_used_by system rounds step.fact) (slice_get-get_or steps n step fits)) ∙ used in
        let place : place_at has.places (slice_index_or steps n step).fact ≡ n = ap (place_at has.places) (step-fact n step fits) ∙ has.are_places.each n (omega (arith, long)) in
        subst (Has (set_of step.uses)) place (made.all_uses _ of_fact)

  pub made-derivation : IsDerivation system events rounds target steps
  made-derivation = record {
    facts = λ fact. (
      (λ h. reached.into fact (is_order.into fact (subst (λ facts. Has (set_of facts) fact) has.are_made.facts h))),
      (λ h. subst (λ facts. Has (set_of facts) fact) (sym has.are_made.facts) (is_order.all fact (reached.all fact h))),
    );
    ordered = subst (AllPairs (λ f g. comes_before rounds f g ≡ true)) (sym has.are_made.facts) is_order.ordered;
    events_are = λ k d h.
        let made = has.are_made.made k d h in
        are-numbers (length system.events) (uses_event system events (slice_index_or steps k d).fact) _ made.events_rise
        (λ n there. let uses = sym (made.events_are n) ∙ there in
        (event-fits system is_system (slice_index_or steps k d).fact n _ refl (and_parts _ _ uses).1, uses))
        (λ n fits uses. made.events_are n ∙ uses);
    uses_are = λ k d h.
        let made = has.are_made.made k d h in
        let here = step-reached k d h in
        are-numbers (length steps) (used_at (slice_index_or steps k d) here made) _ made.uses_rise
        (use-into (slice_index_or steps k d) here made) (use-all (slice_index_or steps k d) here made);
  }
