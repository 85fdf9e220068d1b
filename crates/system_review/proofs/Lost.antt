-- Where nothing is lost, a system and the one with all that may be said have the same facts.
use Rattle.std.proofs.Common.{ℕ, zero, suc, ◌≡◌, ◌↔◌, true, false, List, [], ◌∷◌, length, inl, inr, ⊎_elim, ap, ◌∙◌, sym, subst, refl, arith}
use Rattle.std.proofs.lemmas.Bool.{false≢true, and_parts, eqb-true, or_cases, or_left}
use Rattle.std.proofs.lemmas.Option.{slice_get_cases, slice_get_within}
use Rattle.std.specs.List.{list_any}
use Rattle.std.specs.Option.{option_map_or}
use Rattle.fault_system.specs.Truth.{NumberSet, Has, member, truth}
use Rattle.fault_system.specs.Systems.{System, IsFact, Holds, IsClosed, applied, holds_of}
use Rattle.fault_system.specs.Rounds.{no_event, only}
use Rattle.fault_system.specs.declared.formula.FactInfo.{FactInfo}
use Rattle.fault_system.proofs.Elements.{In, contains_In}
use Rattle.fault_system.proofs.HoldsLaws.{holds_of-closed, holds_of-exact}
use Rattle.fault_system.proofs.Occurring.{truth-grows}
use Rattle.system_review.specs.Alone.{following, made_by_event, made_by_fact, no_fact}
use Rattle.system_review.specs.inner.Alone.{IsSaid, Joins}
use Rattle.system_review.proofs.More.{applied-fact, applied-is}

any-in : (test : NumberSet) (ns : List ℕ) → list_any test ns ≡ true → (n : ℕ) × In n ns × Has test n
any-in test [] e = absurd (false≢true e)
any-in test (n ∷ ns) e = ⊎_elim
    (λ here. (n, inl refl, here))
    (λ there. let found = any-in test ns there in (found.0, inr found.1, found.2))
    (or_cases (test n) (list_any test ns) e)

-- a fact whose formula is true under less is in a closed set with more
module _ (system : System) (events facts : NumberSet) (closed : IsClosed system events facts) (n : ℕ) (fact : FactInfo) (at : IsFact system n fact) where
  closed-at : truth events facts fact.formula ≡ true → Has facts n
  closed-at e = closed n (applied-is system events facts n fact at ∙ e)

  by-event : (event : ℕ) → Has events event → made_by_event system n event ≡ true → Has facts n
  by-event event occurs made =
      closed-at (truth-grows (only event) events no_fact facts
      (λ e same. subst (Has events) (sym (eqb-true e event same)) occurs) (λ m none. absurd (false≢true none)) fact.formula
      (sym (ap (λ found. option_map_or (λ (f : FactInfo). truth (only event) no_fact f.formula) found false) at) ∙ made))

-- what follows from a fact that a closed set has is in that set
module _ (system : System) (events facts : NumberSet) (closed : IsClosed system events facts) (among : List ℕ) (cause : ℕ) (holds : Has facts cause) where
  grown-in : (set : NumberSet) → ((n : ℕ) → Has set n → Has facts n) → (n : ℕ) → Has (member (applied system no_event set)) n → Has facts n
  grown-in set inside n has =
      let there = applied-fact system no_event set n has in
      closed-at system events facts closed n there.0 there.1
      (truth-grows no_event events set facts (λ e none. absurd (false≢true none)) inside there.0.formula (sym (applied-is system no_event set n there.0 there.1) ∙ has))

  following-in : (r n : ℕ) → Has (following system among cause r) n → Has facts n
  following-in zero n e = subst (Has facts) (sym (eqb-true n cause e)) holds
  following-in (suc r) n e = ⊎_elim
      (following-in r n)
      (λ both. grown-in (following system among cause r) (following-in r) n (and_parts _ _ both).1)
      (or_cases _ _ e)

  by-fact : (n : ℕ) → made_by_fact system among n cause ≡ true → Has facts n
  by-fact n made = grown-in (following system among cause (length among)) (following-in (length among)) n made

module _ (system joined : System) (events_of facts_of : ℕ → List ℕ) (long : length system.facts ≡ length joined.facts) (joins : Joins system joined events_of facts_of) (said : IsSaid system events_of facts_of) (events : NumberSet) where
  -- what holds in the system is closed under what the other one says
  held-closed : IsClosed joined events (member (holds_of system events))
  held-closed n has =
      let there = applied-fact joined events (member (holds_of system events)) n has in
      let here = joins n there.0 there.1 in
      let closed = holds_of-closed system events in
      let whole = sym (here.2 events (member (holds_of system events))) ∙ sym (applied-is joined events (member (holds_of system events)) n there.0 there.1) ∙ has in
      ⊎_elim
      (λ own. closed-at system events (member (holds_of system events)) closed n here.0 here.1 own)
      (λ more. ⊎_elim
      (λ some. let found = any-in events (events_of n) some in
      by-event system events (member (holds_of system events)) closed n here.0 here.1 found.0 found.2 (said.events n found.0 (contains_In found.0 (events_of n) found.1)))
      (λ some. let found = any-in (member (holds_of system events)) (facts_of n) some in
      let way = said.facts n found.0 (contains_In found.0 (facts_of n) found.1) (events, (holds_of-exact system events found.0).0 found.2) in
      by-fact system events (member (holds_of system events)) closed way.0 found.0 found.2 n way.1)
      (or_cases _ _ more))
      (or_cases _ _ whole)

  -- what is closed under what the other one says is closed under the system
  closed-less : (facts : NumberSet) → IsClosed joined events facts → IsClosed system events facts
  closed-less facts closed n has = ⊎_elim
      (λ (whole, low, at, read).
      let here = joins n whole at in
      let there = applied-fact system events facts n has in
      closed n (applied-is joined events facts n whole at ∙ here.2 events facts
      ∙ or_left _ _ (sym (applied-is system events facts n here.0 here.1) ∙ has)))
      (λ (past, none). let there = applied-fact system events facts n has in
      absurd (omega (arith, long, slice_get_within system.facts n there.0 there.1)))
      (slice_get_cases joined.facts n).1

  pub same-held : (n : ℕ) → Holds system events n ↔ Holds joined events n
  same-held n = (
    (λ holds facts closed. holds facts (closed-less facts closed)),
    (λ holds. (holds_of-exact system events n).0 (holds (member (holds_of system events)) held-closed)),
  )
