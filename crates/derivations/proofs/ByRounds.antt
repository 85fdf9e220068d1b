-- The derivation by rounds is good, and each of its steps has a line.
use Rattle.std.proofs.Common.{ℕ, zero, suc, ◌+◌, ◌-◌, ◌≡◌, ◌<◌, ◌≤◌, ◌⊎◌, ◌==◌, ◌||◌, true, nat_lt, List, [], ◌∷◌, length, slice_get, slice_index_or, map, Option, Some, None, ap, ◌∙◌, sym, refl, subst, arith, ⊎_elim, inl, inr, le-leb, leb-true, eq-eqb, eqb-true}
use Rattle.std.specs.List.{list_all}
use Rattle.std.proofs.lemmas.Bool.{false≢true, and_from, and_parts, or_cases, or_left, or_right, cases_order}
use Rattle.std.proofs.lemmas.List.{get_or-map, length-map}
use Rattle.std.proofs.lemmas.List.Folds.{list_any_at}
use Rattle.std.proofs.lemmas.Option.{slice_get-get_or, slice_get_cases, slice_get_within, get_or_from_slice_get}
use Rattle.plain_values.specs.Rising.{RisesWithin}
use Rattle.fault_system.specs.Truth.{NumberSet, Has, set_of, truth, occurs, occurs_event}
use Rattle.fault_system.specs.Systems.{System, IsSystem}
use Rattle.fault_system.specs.Rounds.{AreRounds, time_of}
use Rattle.fault_system.specs.inner.Rounds.{FitsTime, within}
use Rattle.fault_system.specs.declared.formula.FactInfo.{FactInfo}
use Rattle.fault_system.specs.declared.formula.Formula.{Formula}
use Rattle.fault_system.proofs.NumberSets.{list_all-made}
use Rattle.fault_system.proofs.Occurring.{truth-grows-on}
use Rattle.fault_system.proofs.RoundLaws.{rounds-fit, time_parts}
use Rattle.derivations.specs.declared.derivation.Firing.{Firing}
use Rattle.derivations.specs.Steps.{IsGood, facts_of, is_made_true, is_of, is_right}
use Rattle.derivations.specs.Text.{HasLine, HaveLines, event_names, fact_names}
use Rattle.derivations.specs.Derived.{IsDerivation, IsReached, comes_before, is_used_by, numbers_in, of_formula, uses_event, uses_fact}
use Rattle.derivations.specs.inner.Ordered.{place_at}
use Rattle.fault_system.specs.declared.formula.EventInfo.{EventInfo}
use Rattle.derivations.proofs.Numbers.{none-some}
use Rattle.derivations.proofs.NumbersIn.{at-found, found-at, numbers-all, numbers-in, numbers-rise, rises-below}
use Rattle.derivations.proofs.Keys.{comes-parts}
use Rattle.derivations.proofs.Made.{event-fits}
use Rattle.derivations.proofs.Reaching.{timed-within, used-before}

-- a time that fits says that the formula is true over the facts of earlier times
true-before : (events : NumberSet) (times : ℕ → ℕ) (f : Formula) (t : ℕ) → 0 < t → FitsTime events times f t → truth events (within times (t - 1)) f ≡ true
true-before events times f zero some fits = absurd (omega arith)
true-before events times f (suc zero) some fits = fits
true-before events times f (suc (suc r)) some fits = let less : suc r ≡ suc (suc r) - 1 = omega arith in subst (λ k. truth events (within times k) f ≡ true) less fits.0

is-used : (system : System) (rounds : List ℕ) (steps : List Firing) (fact n : ℕ) (o : Option Firing) → is_used_by system rounds fact o ≡ true → o ≡ slice_get steps n → (step : Firing) × (slice_get steps n ≡ Some step) × (uses_fact system rounds fact step.fact ≡ true)
is-used system rounds steps fact n None e is = absurd (false≢true e)
is-used system rounds steps fact n (Some step) e is = (step, sym is, e)

-- steps that each have a line have lines
lines-each : (facts names : List (List ℕ)) (events : NumberSet) (steps : List Firing) (number : ℕ) → ((k : ℕ) (step : Firing) → slice_get steps k ≡ Some step → HasLine facts names events (number + k) step) → HaveLines facts names events number steps
lines-each facts names events [] number each = tt
lines-each facts names events (step ∷ steps) number each = (
  subst (λ n. HasLine facts names events n step) (omega arith) (each 0 step refl),
  lines-each facts names events steps (number + 1) (λ k other at. let next : number + suc k ≡ (number + 1) + k = omega arith in subst (λ n. HasLine facts names events n other) next (each (suc k) other at)),
)

module _ (system : System) (events : NumberSet) (rounds : List ℕ) (target : ℕ) (steps : List Firing) (is_system : IsSystem system) (are : AreRounds system events rounds) (some : 0 < time_of rounds target) (is : IsDerivation system events rounds target steps) where
  abbrev facts : List ℕ
  facts = map (λ (step : Firing). step.fact) steps

  long : length facts ≡ length steps
  long = length-map steps (λ (step : Firing). step.fact)

  fact-of : (k : ℕ) (step : Firing) → slice_get steps k ≡ Some step → place_at facts k ≡ step.fact
  fact-of k step at = get_or-map (λ (s : Firing). s.fact) steps k step 0 (slice_get_within steps k step at) ∙ ap (λ (s : Firing). s.fact) (get_or_from_slice_get steps k step step at)

  reached-at : (k : ℕ) (step : Firing) → slice_get steps k ≡ Some step → IsReached system rounds target step.fact
  reached-at k step at = (is.facts step.fact).0 (subst (Has (set_of facts)) (fact-of k step at) (at-found facts k (omega (arith, long, slice_get_within steps k step at))))

  -- a fact that is reached has a round
  reached-timed : (f : ℕ) → IsReached system rounds target f → 0 < time_of rounds f
  reached-timed f reached = leb-true 1 (time_of rounds f)
      (reached (λ n. nat_lt 0 (time_of rounds n)) (le-leb 1 (time_of rounds target) some) (λ g h _ u. le-leb 1 (time_of rounds h) (used-before system rounds g h u).0))

  -- a fact that is reached is the target, or of an earlier round
  abbrev is_early : NumberSet
  is_early n = (n == target) || nat_lt (time_of rounds n) (time_of rounds target)

  early-parts : (n : ℕ) → Has is_early n → (n ≡ target) ⊎ (time_of rounds n < time_of rounds target)
  early-parts n e = ⊎_elim (λ same. inl (eqb-true n target same)) (λ l. inr (leb-true (suc (time_of rounds n)) (time_of rounds target) l)) (or_cases _ _ e)

  reached-early : (f : ℕ) → IsReached system rounds target f → (f ≡ target) ⊎ (time_of rounds f < time_of rounds target)
  reached-early f reached = early-parts f (reached is_early (or_left (target == target) _ (eq-eqb target target refl))
      (λ g h early u. let before = (used-before system rounds g h u).1 in
      let less : time_of rounds h < time_of rounds target = ⊎_elim (λ same. subst (λ k. time_of rounds h < time_of rounds k) same before) (λ l. omega (arith, before)) (early-parts g early) in
      or_right (h == target) _ (le-leb (suc (time_of rounds h)) (time_of rounds target) less)))

  -- what a step uses is of a step before it
  earlier : (j k : ℕ) → j < length steps → k < length steps → time_of rounds (place_at facts j) < time_of rounds (place_at facts k) → j < k
  earlier j k fits_j fits_k less = ⊎_elim
      (λ same. let no_less : time_of rounds (place_at facts k) < time_of rounds (place_at facts k) = subst (λ n. time_of rounds (place_at facts n) < time_of rounds (place_at facts k)) same less in absurd (omega arith))
      (λ differ. ⊎_elim (λ l. l)
      (λ g. ⊎_elim (λ l. absurd (omega arith)) (λ both. absurd (omega (arith, both.0)))
      (comes-parts rounds (place_at facts k) (place_at facts j) (is.ordered k j 0 g (omega (arith, long)))))
      differ)
      (cases_order j k)

  -- a step of a number, and the facts about it
  module _ (k : ℕ) (step : Firing) (at : slice_get steps k ≡ Some step) where
    fits : k < length steps
    fits = slice_get_within steps k step at

    here : slice_index_or steps k step ≡ step
    here = get_or_from_slice_get steps k step step at

    events_are : step.events ≡ numbers_in (length system.events) (uses_event system events step.fact)
    events_are = subst (λ (s : Firing). s.events ≡ numbers_in (length system.events) (uses_event system events s.fact)) here (is.events_are k step fits)

    uses_are : step.uses ≡ numbers_in (length steps) (λ number. is_used_by system rounds step.fact (slice_get steps number))
    uses_are = subst (λ (s : Firing). s.uses ≡ numbers_in (length steps) (λ number. is_used_by system rounds s.fact (slice_get steps number))) here (is.uses_are k step fits)

    event-in : (n : ℕ) → Has (set_of step.events) n → (n < length system.events) × Has (uses_event system events step.fact) n
    event-in n h = numbers-in (length system.events) (uses_event system events step.fact) n (subst (λ ns. Has (set_of ns) n) events_are h)

    use-in : (n : ℕ) → Has (set_of step.uses) n → (n < length steps) × (is_used_by system rounds step.fact (slice_get steps n) ≡ true)
    use-in n h = numbers-in (length steps) (λ number. is_used_by system rounds step.fact (slice_get steps number)) n (subst (λ ns. Has (set_of ns) n) uses_are h)

    use-earlier : (n : ℕ) → Has (set_of step.uses) n → n < k
    use-earlier n h =
        let used = use-in n h in
        let other = is-used system rounds steps step.fact n (slice_get steps n) used.1 refl in
        let before = (used-before system rounds step.fact other.0.fact other.2).1 in
        earlier n k used.0 fits (subst (λ f. time_of rounds f < time_of rounds (place_at facts k)) (sym (fact-of n other.0 other.1)) (subst (λ f. time_of rounds other.0.fact < time_of rounds f) (sym (fact-of k step at)) before))

    -- a fact that the step's fact uses is that of a step that the step uses
    used-in : (n : ℕ) → uses_fact system rounds step.fact n ≡ true → Has (facts_of steps step.uses) n
    used-in n u =
        let reached : IsReached system rounds target n = λ set first closed. closed step.fact n (reached-at k step at set first closed) u in
        let found = found-at facts n ((is.facts n).1 reached) in
        let within_steps : found.0 < length steps = omega (arith, long, found.1) in
        let got = slice_get-get_or steps found.0 step within_steps in
        let fact_is : (slice_index_or steps found.0 step).fact ≡ n = sym (get_or-map (λ (s : Firing). s.fact) steps found.0 step 0 within_steps) ∙ found.2 in
        let uses : is_used_by system rounds step.fact (slice_get steps found.0) ≡ true = ap (is_used_by system rounds step.fact) got ∙ ap (uses_fact system rounds step.fact) fact_is ∙ u in
        let listed : Has (set_of step.uses) found.0 = subst (λ ns. Has (set_of ns) found.0) (sym uses_are) (numbers-all (length steps) (λ number. is_used_by system rounds step.fact (slice_get steps number)) found.0 within_steps uses) in
        let place = found-at step.uses found.0 listed in
        list_any_at (λ number. is_of n (slice_get steps number)) step.uses place.0 0 place.1
        (ap (λ number. is_of n (slice_get steps number)) place.2 ∙ ap (is_of n) got ∙ eq-eqb _ n fact_is)

    event-listed : (n : ℕ) (info : FactInfo) → slice_get system.facts step.fact ≡ Some info → occurs_event n info.formula ≡ true → Has events n → Has (set_of step.events) n
    event-listed n info there o has =
        let occurring : of_formula (occurs_event n) (slice_get system.facts step.fact) ≡ true = ap (of_formula (occurs_event n)) there ∙ o in
        subst (λ ns. Has (set_of ns) n) (sym events_are)
        (numbers-all (length system.events) (uses_event system events step.fact) n (event-fits system is_system step.fact n _ refl occurring) (and_from _ _ has occurring))

    fact-listed : (n : ℕ) (info : FactInfo) → slice_get system.facts step.fact ≡ Some info → occurs n info.formula ≡ true → Has (within (time_of rounds) (time_of rounds step.fact - 1)) n → Has (facts_of steps step.uses) n
    fact-listed n info there o has =
        let parts = time_parts (time_of rounds n) (time_of rounds step.fact - 1) has in
        let timed = reached-timed step.fact (reached-at k step at) in
        used-in n (and_from _ _ (ap (of_formula (occurs n)) there ∙ o)
        (and_from (nat_lt 0 (time_of rounds n)) (nat_lt (time_of rounds n) (time_of rounds step.fact)) (le-leb 1 (time_of rounds n) parts.0) (le-leb (suc (time_of rounds n)) (time_of rounds step.fact) (omega (arith, parts.1, timed)))))

    fact-fits : step.fact < length system.facts
    fact-fits = omega (arith, are.count, timed-within rounds step.fact (reached-timed step.fact (reached-at k step at)))

    made-true : (o : Option FactInfo) → slice_get system.facts step.fact ≡ o → is_made_true o (set_of step.events) (facts_of steps step.uses) ≡ true
    made-true None there = absurd (no_fact (slice_get_cases system.facts step.fact).1) where
      no_fact : ((info : FactInfo) × (step.fact < length system.facts) × (slice_get system.facts step.fact ≡ Some info) × (slice_index_or system.facts step.fact info ≡ info)) ⊎ ((length system.facts ≤ step.fact) × (slice_get system.facts step.fact ≡ None)) → ⊥
      no_fact (inl it) = none-some it.0 (sym there ∙ it.2)
      no_fact (inr it) = absurd (omega (arith, it.0, fact-fits))
    made-true (Some info) there =
        truth-grows-on events (set_of step.events) (within (time_of rounds) (time_of rounds step.fact - 1)) (facts_of steps step.uses) info.formula
        (λ n o has. event-listed n info there o has)
        (λ n o has. fact-listed n info there o has)
        (true-before events (time_of rounds) info.formula (time_of rounds step.fact) (reached-timed step.fact (reached-at k step at))
        ((rounds-fit system events rounds are).each step.fact info there))

    within-set : list_all events step.events ≡ true
    within-set = list_all-made events step.events (λ n h. (and_parts _ _ (event-in n h).1).0)

    right-step : is_right system events steps k (Some step) ≡ true
    right-step = and_from _ _ within-set
        (and_from _ _ (list_all-made (λ n. nat_lt n k) step.uses (λ n h. le-leb (suc n) k (use-earlier n h)))
        (made-true (slice_get system.facts step.fact) refl))

    has-line : HasLine (fact_names system) (event_names system) events k step
    has-line = record {
      fact = omega (arith, fact-fits, length-map system.facts (λ (fact : FactInfo). fact.name));
      rising = subst (λ count. RisesWithin 0 count step.events) (sym (length-map system.events (λ (event : EventInfo). event.name)))
          (subst (RisesWithin 0 (length system.events)) (sym events_are) (numbers-rise (length system.events) (uses_event system events step.fact)));
      within = within-set;
      uses = rises-below 0 (length steps) k step.uses (subst (RisesWithin 0 (length steps)) (sym uses_are) (numbers-rise (length steps) (λ number. is_used_by system rounds step.fact (slice_get steps number)))) use-earlier;
    }

  right-at : (k : ℕ) (o : Option Firing) → k < length steps → slice_get steps k ≡ o → is_right system events steps k o ≡ true
  right-at k None fits at = absurd (no_step (slice_get_cases steps k).1) where
    no_step : ((step : Firing) × (k < length steps) × (slice_get steps k ≡ Some step) × (slice_index_or steps k step ≡ step)) ⊎ ((length steps ≤ k) × (slice_get steps k ≡ None)) → ⊥
    no_step (inl it) = none-some it.0 (sym at ∙ it.2)
    no_step (inr it) = absurd (omega (arith, it.0, fits))
  right-at k (Some step) fits at = right-step k step at

  -- the target stands last
  at-last : (last : ℕ) → last + 1 ≡ length steps → (step : Firing) → slice_get steps last ≡ Some step → step.fact ≡ target
  at-last last is_last step at =
      let target_at = found-at facts target ((is.facts target).1 (λ set first closed. first)) in
      let last_fact = fact-of last step at in
      ⊎_elim (λ same. sym last_fact ∙ ap (place_at facts) (sym same) ∙ target_at.2)
      (λ differ. ⊎_elim
      (λ l.
      let before : comes_before rounds target step.fact ≡ true = subst (λ f. comes_before rounds f step.fact ≡ true) target_at.2 (subst (λ g. comes_before rounds (place_at facts target_at.0) g ≡ true) last_fact (is.ordered target_at.0 last 0 l (omega (arith, long)))) in
      ⊎_elim (λ same. same)
      (λ early. ⊎_elim (λ later. absurd (omega (arith, early))) (λ both. absurd (omega (arith, early, both.0))) (comes-parts rounds target step.fact before))
      (reached-early step.fact (reached-at last step at)))
      (λ g. absurd (omega (arith, target_at.1, long, g)))
      differ)
      (cases_order target_at.0 last)

  some-step : 0 < length steps
  some-step = let target_at = found-at facts target ((is.facts target).1 (λ set first closed. first)) in omega (arith, long, target_at.1)

  ends : (o : Option Firing) → slice_get steps (length steps - 1) ≡ o → is_of target o ≡ true
  ends None at = absurd (no_step (slice_get_cases steps (length steps - 1)).1) where
    no_step : ((step : Firing) × (length steps - 1 < length steps) × (slice_get steps (length steps - 1) ≡ Some step) × (slice_index_or steps (length steps - 1) step ≡ step)) ⊎ ((length steps ≤ length steps - 1) × (slice_get steps (length steps - 1) ≡ None)) → ⊥
    no_step (inl it) = none-some it.0 (sym at ∙ it.2)
    no_step (inr it) = absurd (omega (arith, it.0, some-step))
  ends (Some step) at = eq-eqb step.fact target (at-last (length steps - 1) (omega (arith, some-step)) step at)

  pub derivation-good : IsGood system target events steps
  derivation-good = record {
    right = λ k fits. right-at k (slice_get steps k) fits refl;
    end = ends (slice_get steps (length steps - 1)) refl;
  }

  pub derivation-lines : HaveLines (fact_names system) (event_names system) events 0 steps
  derivation-lines = lines-each (fact_names system) (event_names system) events steps 0 (λ k step at. let same : k ≡ 0 + k = omega arith in subst (λ n. HasLine (fact_names system) (event_names system) events n step) same (has-line k step at))
