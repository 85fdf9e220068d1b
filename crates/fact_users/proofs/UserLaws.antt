-- Users of facts and events: noted one after another, and all of them.
use Rattle.std.proofs.Common.{ℕ, ◌+◌, ◌≡◌, ◌<◌, Bool, true, false, ◌&&◌, ◌||◌, ◌==◌, Some, None, ⊎_elim, ap, ◌∙◌, sym, refl, arith, eq-eqb}
use Rattle.std.specs.Prelude.{slice_get}
use Rattle.std.proofs.lemmas.Bool.{and_from, cases_eq, or_left, or_right}
use Rattle.fault_system.specs.Truth.{NumberSet, occurs, occurs_event}
use Rattle.fault_system.specs.Systems.{System, IsFact}
use Rattle.fault_system.specs.declared.formula.FactInfo.{FactInfo}
use Rattle.fact_users.specs.inner.Users.{AreUsersBelow, Notes, users_at}
use Rattle.fact_users.specs.declared.users.Users.{Users}

or_none : (a : Bool) → a ≡ a || false
or_none true = refl
or_none false = refl

or_more : (a b c u : Bool) → (a || (b && u)) || (c && u) ≡ a || ((b || c) && u)
or_more true b c u = refl
or_more false true true true = refl
or_more false true true false = refl
or_more false true false true = refl
or_more false true false false = refl
or_more false false c u = refl

-- nothing more is noted
pub notes-none : (user : ℕ) (facts events : NumberSet) (a : Users) → ((g : ℕ) → facts g ≡ false) → ((e : ℕ) → events e ≡ false) → Notes user facts events a a
notes-none user facts events a no_facts no_events = record {
  facts_size = refl;
  events_size = refl;
  facts_are = λ g n h. or_none (users_at a.facts.items g n) ∙ ap (λ b. users_at a.facts.items g n || (b && (user == n))) (sym (no_facts g));
  events_are = λ e n h. or_none (users_at a.events.items e n) ∙ ap (λ b. users_at a.events.items e n || (b && (user == n))) (sym (no_events e));
}

-- one after another
pub notes-then : (user : ℕ) (f e f' e' f'' e'' : NumberSet) (a b c : Users) → Notes user f e a b → Notes user f' e' b c → ((g : ℕ) → f'' g ≡ f g || f' g) → ((g : ℕ) → e'' g ≡ e g || e' g) → Notes user f'' e'' a c
notes-then user f e f' e' f'' e'' a b c one two facts events = record {
  facts_size = two.facts_size ∙ one.facts_size;
  events_size = two.events_size ∙ one.events_size;
  facts_are = λ g n h. two.facts_are g n (omega (arith, one.facts_size)) ∙ ap (λ x. x || (f' g && (user == n))) (one.facts_are g n h)
      ∙ or_more (users_at a.facts.items g n) (f g) (f' g) (user == n) ∙ ap (λ x. users_at a.facts.items g n || (x && (user == n))) (sym (facts g));
  events_are = λ g n h. two.events_are g n (omega (arith, one.events_size)) ∙ ap (λ x. x || (e' g && (user == n))) (one.events_are g n h)
      ∙ or_more (users_at a.events.items g n) (e g) (e' g) (user == n) ∙ ap (λ x. users_at a.events.items g n || (x && (user == n))) (sym (events g));
}

-- ---- the users of the facts so far

same_fact : {x y : FactInfo} → Some x ≡ Some y → x ≡ y
same_fact e = cc

module _ (system : System) (number : ℕ) (old new : Users) (so_far : AreUsersBelow system number old) where
  pub noted-fact : (fact : FactInfo) → IsFact system number fact → Notes number (λ g. occurs g fact.formula) (λ e. occurs_event e fact.formula) old new → AreUsersBelow system (number + 1) new
  noted-fact fact at notes = record {
    facts_size = notes.facts_size ∙ so_far.facts_size;
    events_size = notes.events_size ∙ so_far.events_size;
    facts = λ n g other h there fits o. notes.facts_are g n (omega (arith, so_far.facts_size)) ∙ ⊎_elim
        (λ (same : n ≡ number). or_right (users_at old.facts.items g n) _ (and_from _ _ (ap (λ (f : FactInfo). occurs g f.formula) (is n other same there) ∙ o) (eq-eqb number n (sym same))))
        (λ differ. or_left _ _ (so_far.facts n g other (omega (arith, differ)) there fits o)) (cases_eq n number);
    events = λ n e other h there fits o. notes.events_are e n (omega (arith, so_far.events_size)) ∙ ⊎_elim
        (λ (same : n ≡ number). or_right (users_at old.events.items e n) _ (and_from _ _ (ap (λ (f : FactInfo). occurs_event e f.formula) (is n other same there) ∙ o) (eq-eqb number n (sym same))))
        (λ differ. or_left _ _ (so_far.events n e other (omega (arith, differ)) there fits o)) (cases_eq n number);
  } where
    is : (n : ℕ) (other : FactInfo) → n ≡ number → IsFact system n other → fact ≡ other
    is n other same there = same_fact (sym at ∙ ap (slice_get system.facts) (sym same) ∙ there)

-- no fact has this number
pub noted-none : (system : System) (number : ℕ) (users : Users) → AreUsersBelow system number users → slice_get system.facts number ≡ None → AreUsersBelow system (number + 1) users
noted-none system number users so_far past = record {
  facts_size = so_far.facts_size;
  events_size = so_far.events_size;
  facts = λ n g fact h there. so_far.facts n g fact (below n fact h there) there;
  events = λ n e fact h there. so_far.events n e fact (below n fact h there) there;
} where
  below : (n : ℕ) (fact : FactInfo) → n < number + 1 → IsFact system n fact → n < number
  below n fact h there = ⊎_elim
      (λ (same : n ≡ number). let no : Some fact ≡ None = sym there ∙ ap (slice_get system.facts) same ∙ past in absurd (cc))
      (λ differ. omega (arith, differ)) (cases_eq n number)
