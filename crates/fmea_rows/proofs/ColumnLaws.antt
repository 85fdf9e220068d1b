-- Distances from an effect: no event reaches it in fewer rounds, and what is sure reaches it in so many.
use Rattle.std.proofs.Common.{◌&&◌, ℕ, zero, suc, ◌+◌, ◌≡◌, ◌<◌, ◌≤◌, ◌⊎◌, Bool, true, false, ◌||◌, ◌==◌, if◌then◌else◌, List, [], ◌∷◌, ◌++◌, length, map, replicate, All, set, take, get_or, inl, inr, ⊎_elim, ap, ◌∙◌, sym, refl, subst, arith, eqb-true, eq-eqb}
use Rattle.std.proofs.lemmas.Bool.{and_from, false≢true, cases_Bool, or_cases, or_left, or_right}
use Rattle.std.specs.List.{flat_map, list_all}
use Rattle.std.proofs.lemmas.List.{map-append, take_more}
use Rattle.std.proofs.lemmas.List.Elements.{All-head, All-nil, All-push, All-tail}
use Rattle.std.proofs.lemmas.Option.{slice_get_within}
use Rattle.fault_system.specs.Truth.{NumberSet, Has, member, occurs, occurs_event, truth}
use Rattle.fault_system.specs.Systems.{System, IsFact, Holds, round}
use Rattle.fault_system.specs.Rounds.{IsRoundOf, no_event, only, time_of}
use Rattle.fault_system.specs.inner.Rounds.{IsTable, within}
use Rattle.fault_system.specs.declared.formula.FactInfo.{FactInfo}
use Rattle.fault_system.specs.declared.formula.Formula.{Formula}
use Rattle.fault_system.proofs.HoldsLaws.{holds_of-exact, round-least}
use Rattle.fault_system.proofs.NumberSets.{member-map, member-none, member-put, member-replicate}
use Rattle.fault_system.proofs.Occurring.{truth-grows, truth-grows-on}
use Rattle.fault_system.proofs.RoundLaws.{table-rounds, time_parts, timed}
use Rattle.fmea_rows.specs.Rows.{event_rows, is_reached, row_of}
use Rattle.fmea_rows.specs.inner.Columns.{AreAround, AreColumns, AreConstant, AreNear, AreSure, IsAround, IsColumn, IsConstant, IsEarly, IsPass, IsToldAt, LeadsTo, Spreads, column_rows, with_one}
use Rattle.fmea_rows.specs.inner.Tables.{is_new, row_if}
use Rattle.fmea_rows.specs.declared.columns.Column.{Column}
use Rattle.fmea_rows.specs.declared.columns.Sure.{Sure}
use Rattle.fmea_rows.proofs.FeltLaws.{fact-at}
use Rattle.fmea_rows.proofs.TableLaws.{made-where, one-row}

-- ---- what is around a formula

within-next : (times : ℕ → ℕ) (most n : ℕ) → Has (within times most) n → Has (within times (most + 1)) n
within-next times most n h = let parts = time_parts (times n) most h in timed (times n) (most + 1) parts.0 (omega (arith, parts.1))

pub around-none : (near first : ℕ → ℕ) (distance latest : ℕ) (facts events : NumberSet) → ((n : ℕ) → facts n ≡ false) → ((n : ℕ) → events n ≡ false) → AreAround near first distance latest facts events
around-none near first distance latest facts events no_facts no_events = record {
  facts_are = λ n h. absurd (false≢true (sym (no_facts n) ∙ h));
  events_are = λ n h. absurd (false≢true (sym (no_events n) ∙ h));
}

pub around-then : (near first : ℕ → ℕ) (distance latest : ℕ) (f e f' e' f'' e'' : NumberSet) → AreAround near first distance latest f e → AreAround near first distance latest f' e' → ((n : ℕ) → f'' n ≡ f n || f' n) → ((n : ℕ) → e'' n ≡ e n || e' n) → AreAround near first distance latest f'' e''
around-then near first distance latest f e f' e' f'' e'' one two facts events = record {
  facts_are = λ n h. ⊎_elim (λ l. one.facts_are n l) (λ r. two.facts_are n r) (or_cases (f n) (f' n) (sym (facts n) ∙ h));
  events_are = λ n h. ⊎_elim (λ l. one.events_are n l) (λ r. two.events_are n r) (or_cases (e n) (e' n) (sym (events n) ∙ h));
}

pub around-fact : (near first : ℕ → ℕ) (distance latest number : ℕ) → Has (within near (distance + 1)) number → AreAround near first distance latest (λ n. number == n) (λ n. false)
around-fact near first distance latest number is = record {
  facts_are = λ n h. subst (λ (k : ℕ). Has (within near (distance + 1)) k) (eqb-true number n h) is;
  events_are = λ n h. absurd (false≢true h);
}

pub around-event : (near first : ℕ → ℕ) (distance latest number : ℕ) → Has (within first latest) number → AreAround near first distance latest (λ n. false) (λ n. number == n)
around-event near first distance latest number is = record {
  facts_are = λ n h. absurd (false≢true h);
  events_are = λ n h. subst (λ (k : ℕ). Has (within first latest) k) (eqb-true number n h) is;
}

-- events that are so far are one farther at most
pub around-later : (near first : ℕ → ℕ) (distance : ℕ) (facts events : NumberSet) → AreAround near first distance distance facts events → AreAround near first distance (distance + 1) facts events
around-later near first distance facts events is = record {
  facts_are = is.facts_are;
  events_are = λ n h. within-next first distance n (is.events_are n h);
}

-- a formula that no events make true before any fact holds, with events that are at most one farther
pub around-late : (near first : ℕ → ℕ) (distance events : ℕ) (all no_fact : NumberSet) (formula : Formula) → ((e : ℕ) → e < events → Has all e) → ((n : ℕ) → no_fact n ≡ false) → truth all no_fact formula ≡ false
    → AreAround near first distance (distance + 1) (λ m. occurs m formula) (λ e. occurs_event e formula) → IsAround near first distance events formula
around-late near first distance events all no_fact formula full empty none is = record {
  around = is;
  early = λ e fits occur early. absurd (false≢true (sym none ∙ truth-grows (only e) all no_event no_fact
      (λ k h. full k (subst (λ (n : ℕ). n < events) (sym (eqb-true k e h)) fits)) (λ m h. absurd (false≢true h)) formula early.alone));
}

-- a formula with events that are as far at most
pub around-early : (near first : ℕ → ℕ) (distance events : ℕ) (formula : Formula) → AreAround near first distance distance (λ m. occurs m formula) (λ e. occurs_event e formula) → IsAround near first distance events formula
around-early near first distance events formula is = record {
  around = around-later near first distance (λ m. occurs m formula) (λ e. occurs_event e formula) is;
  early = λ e fits occur early. is.events_are e occur;
}

-- ---- what is sure

pub spreads-none : (near first : ℕ → ℕ) (distance latest : ℕ) (facts events : NumberSet) (a : Sure) → Spreads near first distance latest facts events a a
spreads-none near first distance latest facts events a = record { facts_new = λ n h. inl h; events_new = λ n h. inl h }

-- of sets that are the same
pub spreads-same : (near first : ℕ → ℕ) (distance latest : ℕ) (f e f' e' : NumberSet) (a b : Sure) → Spreads near first distance latest f e a b → ((n : ℕ) → f' n ≡ f n) → ((n : ℕ) → e' n ≡ e n) → Spreads near first distance latest f' e' a b
spreads-same near first distance latest f e f' e' a b is facts events = record {
  facts_new = λ n h. ⊎_elim (λ was. inl was) (λ new. inr (facts n ∙ new.0, new.1)) (is.facts_new n h);
  events_new = λ n h. ⊎_elim (λ was. inl was) (λ new. inr (events n ∙ new.0, new.1)) (is.events_new n h);
}

pub spreads-then : (near first : ℕ → ℕ) (distance latest : ℕ) (f e f' e' f'' e'' : NumberSet) (a b c : Sure) → Spreads near first distance latest f e a b → Spreads near first distance latest f' e' b c → ((n : ℕ) → f'' n ≡ f n || f' n) → ((n : ℕ) → e'' n ≡ e n || e' n) → Spreads near first distance latest f'' e'' a c
spreads-then near first distance latest f e f' e' f'' e'' a b c one two facts events = record {
  facts_new = λ n h. ⊎_elim
      (λ old. ⊎_elim (λ was. inl was) (λ new. inr (facts n ∙ or_left (f n) (f' n) new.0, new.1)) (one.facts_new n old))
      (λ new. inr (facts n ∙ or_right (f n) (f' n) new.0, new.1)) (two.facts_new n h);
  events_new = λ n h. ⊎_elim
      (λ old. ⊎_elim (λ was. inl was) (λ new. inr (events n ∙ or_left (e n) (e' n) new.0, new.1)) (one.events_new n old))
      (λ new. inr (events n ∙ or_right (e n) (e' n) new.0, new.1)) (two.events_new n h);
}

pub spreads-fact : (near first : ℕ → ℕ) (distance latest number : ℕ) (old new : Sure) → near number ≡ distance + 1 → new.facts ≡ set old.facts number true → new.events ≡ old.events → Spreads near first distance latest (λ n. number == n) (λ n. false) old new
spreads-fact near first distance latest number old new is made same = record {
  facts_new = λ n h. ⊎_elim (λ here. inr (eq-eqb number n (sym here), ap near here ∙ is)) (λ was. inl was) (member-put old.facts number n (subst (λ (bs : List Bool). Has (member bs) n) made h));
  events_new = λ n h. inl (subst (λ (bs : List Bool). Has (member bs) n) same h);
}

pub spreads-event : (near first : ℕ → ℕ) (distance latest number : ℕ) (old new : Sure) → first number ≡ latest → new.events ≡ set old.events number true → new.facts ≡ old.facts → Spreads near first distance latest (λ n. false) (λ n. number == n) old new
spreads-event near first distance latest number old new is made same = record {
  facts_new = λ n h. inl (subst (λ (bs : List Bool). Has (member bs) n) same h);
  events_new = λ n h. ⊎_elim (λ here. inr (eq-eqb number n (sym here), ap first here ∙ is)) (λ was. inl was) (member-put old.events number n (subst (λ (bs : List Bool). Has (member bs) n) made h));
}

-- of sets in which there is more
pub spreads-within : (near first : ℕ → ℕ) (distance latest : ℕ) (f e f' e' : NumberSet) (a b : Sure) → Spreads near first distance latest f e a b → ((n : ℕ) → Has f n → Has f' n) → ((n : ℕ) → Has e n → Has e' n) → Spreads near first distance latest f' e' a b
spreads-within near first distance latest f e f' e' a b is facts events = record {
  facts_new = λ n h. ⊎_elim (λ was. inl was) (λ new. inr (facts n new.0, new.1)) (is.facts_new n h);
  events_new = λ n h. ⊎_elim (λ was. inl was) (λ new. inr (events n new.0, new.1)) (is.events_new n h);
}

module _ (system : System) (effect : ℕ) (near first : ℕ → ℕ) where
  -- the effect alone is sure
  pub sure-first : (old new : Sure) → ((n : ℕ) → member old.facts n ≡ false) → ((n : ℕ) → member old.events n ≡ false) → Spreads near first 0 0 (λ n. effect == n) (λ n. false) old new → AreSure system effect near first new
  sure-first old new no_facts no_events spreads = record {
    facts_lead = λ n h es q holds. ⊎_elim
        (λ was. absurd (false≢true (sym (no_facts n) ∙ was)))
        (λ fresh.
        let later : suc q ≡ q + near n = omega (arith, fresh.1) in
        subst (λ (r : ℕ). Has (member (round system es r)) effect) later (subst (λ (k : ℕ). Has (member (round system es (suc q))) k) (sym (eqb-true effect n fresh.0)) holds))
        (spreads.facts_new n h);
    events_lead = λ e h. ⊎_elim (λ was. absurd (false≢true (sym (no_events e) ∙ was))) (λ fresh. absurd (false≢true fresh.0)) (spreads.events_new e h);
  }

  module _ (number : ℕ) (fact : FactInfo) (at : IsFact system number fact) (leads : LeadsTo system effect near number) where
    -- a fact whose formula is true under what holds in a round holds in the next one
    next-round : (es : NumberSet) (q : ℕ) → truth es (member (round system es q)) fact.formula ≡ true → Has (member (round system es (suc q))) number
    next-round es q true_there = member-map (λ (f : FactInfo). truth es (member (round system es q)) f.formula) system.facts number fact at ∙ true_there

    -- what makes the formula of a fact true that leads to the effect, together with what is constant, leads there too
    leads-on : (held : NumberSet) → AreConstant system held → (n : ℕ) → truth no_event (with_one held n) fact.formula ≡ true → near n ≡ near number + 1 → LeadsTo system effect near n
    leads-on held constant n true_with farther es q holds =
        let next : Has (member (round system es (suc (suc q)))) number =
        next-round es (suc q) (truth-grows no_event es (with_one held n) (member (round system es (suc q))) (λ e h. absurd (false≢true h))
        (λ m h. ⊎_elim (λ l. constant m l es q) (λ r. subst (λ (k : ℕ). Has (member (round system es (suc q))) k) (sym (eqb-true m n r)) holds) (or_cases (held m) (only n m) h)) fact.formula true_with) in
        let later : suc q + near number ≡ q + near n = omega (arith, farther) in
        subst (λ (r : ℕ). Has (member (round system es r)) effect) later (leads es (suc q) next)

    -- an event that makes it true before any fact holds
    event-leads : (held : NumberSet) → ((n : ℕ) → held n ≡ false) → (e : ℕ) → truth (only e) held fact.formula ≡ true → first e ≡ near number → Has (member (round system (only e) (first e))) effect
    event-leads held none e true_alone same =
        let next = next-round (only e) zero (truth-grows (only e) (only e) held (member (round system (only e) zero)) (λ k h. h) (λ m h. absurd (false≢true (sym (none m) ∙ h))) fact.formula true_alone) in
        let when : 0 + near number ≡ first e = omega (arith, same) in
        subst (λ (r : ℕ). Has (member (round system (only e) r)) effect) when (leads (only e) 0 next)

    -- an event that makes it true once constant facts hold
    event-leads-late : (held : NumberSet) → AreConstant system held → (e : ℕ) → truth (only e) held fact.formula ≡ true → first e ≡ near number + 1 → Has (member (round system (only e) (first e))) effect
    event-leads-late held constant e true_with same =
        let next = next-round (only e) (suc zero) (truth-grows (only e) (only e) held (member (round system (only e) (suc zero))) (λ k h. h) (λ m h. constant m h (only e) zero) fact.formula true_with) in
        let when : 1 + near number ≡ first e = omega (arith, same) in
        subst (λ (r : ℕ). Has (member (round system (only e) r)) effect) when (leads (only e) 1 next)

  pass-constant : (held : NumberSet) (distance latest : ℕ) → IsPass system held distance latest → AreConstant system held
  pass-constant held distance latest pass = ⊎_elim (λ none n h. absurd (false≢true (sym (none.1 n) ∙ h))) (λ held_are. held_are.1) pass

  pub sure-more : (number : ℕ) (fact : FactInfo) (held : NumberSet) (latest : ℕ) (old new : Sure) → IsFact system number fact → Has (member old.facts) number → IsPass system held (near number) latest → AreSure system effect near first old
      → Spreads near first (near number) latest (λ n. truth no_event (with_one held n) fact.formula) (λ n. truth (only n) held fact.formula) old new → AreSure system effect near first new
  sure-more number fact held latest old new at here pass are spreads = record {
    facts_lead = λ n h. ⊎_elim (λ was. are.facts_lead n was) (λ fresh. leads-on number fact at (are.facts_lead number here) held (pass-constant held (near number) latest pass) n fresh.0 fresh.1) (spreads.facts_new n h);
    events_lead = λ e h. ⊎_elim (λ was. are.events_lead e was)
        (λ fresh. ⊎_elim
        (λ none. event-leads number fact at (are.facts_lead number here) held none.1 e fresh.0 (fresh.1 ∙ none.0))
        (λ constant. event-leads-late number fact at (are.facts_lead number here) held constant.1 e fresh.0 (fresh.1 ∙ constant.0)) pass)
        (spreads.events_new e h);
  }

  -- ---- no way is shorter

  module _ (are : AreNear system near first (length system.facts)) where
    -- an event that occurs in the formula of a fact is at most so far from the effect as this, and one less if it makes it true before any fact holds
    abbrev IsFar : ℕ → ℕ → Type 0
    IsFar event d = (n : ℕ) (fact : FactInfo) → IsFact system n fact → 0 < near n → occurs_event event fact.formula ≡ true → (d ≤ near n + 1) × (IsEarly event fact.formula → d ≤ near n)

    -- in the first round
    before-first : (event d : ℕ) → IsFar event d → (n : ℕ) (fact : FactInfo) → IsFact system n fact → 0 < near n → 1 + near n ≤ d
        → truth (only event) (member (round system (only event) 0)) fact.formula ≡ true → truth no_event (member (round system no_event 0)) fact.formula ≡ true
    before-first event d far n fact at led early holds =
        let none : (es : NumberSet) (m : ℕ) → member (round system es 0) m ≡ false = λ es m. member-none system.facts m in
        let alone : truth (only event) no_event fact.formula ≡ true =
        truth-grows (only event) (only event) (member (round system (only event) 0)) no_event (λ k h. h) (λ m h. absurd (false≢true (sym (none (only event) m) ∙ h))) fact.formula holds in
        let without : truth no_event no_event fact.formula ≡ true = ⊎_elim (λ yes. yes)
        (λ no. ⊎_elim
        (λ o. let soon : d ≤ near n = (far n fact at led o).1 (record { alone = alone; without = no }) in absurd (omega (arith, early, soon)))
        (λ o. truth-grows-on (only event) no_event no_event no_event fact.formula
        (λ e oc h. absurd (false≢true (sym o ∙ subst (λ (k : ℕ). occurs_event k fact.formula ≡ true) (eqb-true e event h) oc))) (λ m oc h. h) alone)
        (cases_Bool (occurs_event event fact.formula)))
        (cases_Bool (truth no_event no_event fact.formula)) in
        truth-grows no_event no_event no_event (member (round system no_event 0)) (λ k h. h) (λ m h. absurd (false≢true h)) fact.formula without

    -- what holds after some rounds under an event alone holds under no event too, where the effect would follow sooner than in so many rounds
    as-before : (event d : ℕ) → IsFar event d → (q n : ℕ) → 0 < near n → q + near n ≤ d → Has (member (round system (only event) q)) n → Has (member (round system no_event q)) n
    as-before event d far zero n led early holds = absurd (false≢true (sym (member-none system.facts n) ∙ holds))
    as-before event d far (suc zero) n led early holds =
        let there = fact-at system (only event) (member (round system (only event) zero)) n holds in
        let fact : FactInfo = there.0 in
        member-map (λ (f : FactInfo). truth no_event (member (round system no_event zero)) f.formula) system.facts n fact there.1
        ∙ before-first event d far n fact there.1 led (omega (arith, early))
        (sym (member-map (λ (f : FactInfo). truth (only event) (member (round system (only event) zero)) f.formula) system.facts n fact there.1) ∙ holds)
    as-before event d far (suc (suc q)) n led early holds =
        let there = fact-at system (only event) (member (round system (only event) (suc q))) n holds in
        let fact : FactInfo = there.0 in
        let around = (are n (slice_get_within system.facts n fact there.1) fact there.1 led).around in
        member-map (λ (f : FactInfo). truth no_event (member (round system no_event (suc q))) f.formula) system.facts n fact there.1
        ∙ truth-grows-on (only event) no_event (member (round system (only event) (suc q))) (member (round system no_event (suc q))) fact.formula
        (λ e o h. let soon : d ≤ near n + 1 = (far n fact there.1 led (subst (λ (k : ℕ). occurs_event k fact.formula ≡ true) (eqb-true e event h) o)).0 in absurd (omega (arith, early, soon)))
        (λ m o h. let parts = time_parts (near m) (near n + 1) (around.facts_are m o) in as-before event d far (suc q) m parts.0 (omega (arith, early, parts.1)) h)
        (sym (member-map (λ (f : FactInfo). truth (only event) (member (round system (only event) (suc q))) f.formula) system.facts n fact there.1) ∙ holds)

    module _ (idle : Holds system no_event effect → ⊥) (one : near effect ≡ 1) where
      -- under an event that occurs nowhere so near the effect does not hold so soon
      not-yet : (event d : ℕ) → IsFar event d → (q : ℕ) → q < d → Has (member (round system (only event) q)) effect → ⊥
      not-yet event d far q early holds = idle (λ xs closed. round-least system no_event xs closed q effect (as-before event d far q effect (omega (arith, one)) (omega (arith, one, early)) holds))

      near-at : (event n : ℕ) (fact : FactInfo) → event < length system.events → IsFact system n fact → 0 < near n → occurs_event event fact.formula ≡ true
          → (0 < first event) × ((first event ≤ near n + 1) × (IsEarly event fact.formula → first event ≤ near n))
      near-at event n fact fits at led o =
          let is = are n (slice_get_within system.facts n fact at) fact at led in
          let parts = time_parts (first event) (near n + 1) (is.around.events_are event o) in
          (parts.0, (parts.1, λ early. (time_parts (first event) (near n) (is.early event fits o early)).1))

      pub round-told : (event : ℕ) → event < length system.events → (first event ≡ 0) ⊎ Has (member (round system (only event) (first event))) effect → IsRoundOf system (only event) effect (first event)
      round-told event fits told = by (first event) refl told where
        by : (t : ℕ) → first event ≡ t → (first event ≡ 0) ⊎ Has (member (round system (only event) (first event))) effect → IsRoundOf system (only event) effect t
        by zero e is = λ holds. not-yet event (length system.facts + 1)
            (λ n fact at led o. let some = near-at event n fact fits at led o in absurd (omega (arith, some.0, e)))
            (length system.facts) (omega arith) ((holds_of-exact system (only event) effect).1 holds)
        by (suc t) e is = record {
          there = ⊎_elim (λ none. absurd (omega (arith, none, e))) (λ h. subst (λ (r : ℕ). Has (member (round system (only event) r)) effect) e h) is;
          first = λ q h. ⊎_elim
              (λ yes. absurd (not-yet event (suc t) (λ n fact at led o. let some = near-at event n fact fits at led o in (omega (arith, some.1.0, e), λ early. let soon = some.1.1 early in omega (arith, soon, e))) q h yes))
              (λ no. no) (cases_Bool (member (round system (only event) q) effect));
        }

-- the column of an effect
pub column-made : (system : System) (effect : ℕ) (near : ℕ → ℕ) (column : Column) (sure : Sure) → AreNear system near (time_of column.rounds.items) (length system.facts) → near effect ≡ 1 → AreSure system effect near (time_of column.rounds.items) sure
    → column.effect ≡ effect → column.sure ≡ sure.events → IsColumn system effect column
column-made system effect near column sure are one leads same events = record {
  effect_is = same;
  rounds_are = λ e fits idle told. round-told system effect near (time_of column.rounds.items) are idle one e fits
      (⊎_elim (λ none. inl none) (λ h. inr (leads.events_lead e (subst (λ (bs : List Bool). Has (member bs) e) events h))) told);
}

time-replicate : (size e t : ℕ) → e < size → time_of (replicate size t) e ≡ t
time-replicate zero e t h = absurd (omega arith)
time-replicate (suc size) zero t h = refl
time-replicate (suc size) (suc e) t h = time-replicate size e t (omega arith)

-- a column in which nothing is told
pub column-untold : (system : System) (effect size : ℕ) (column : Column) → size ≡ length system.events → column.effect ≡ effect → column.rounds.items ≡ replicate size 1 → column.sure ≡ replicate size false → IsColumn system effect column
column-untold system effect size column all same rounds sure = record {
  effect_is = same;
  rounds_are = λ e fits idle told. absurd (⊎_elim
      (λ none. omega (arith, sym (ap (λ (ts : List ℕ). time_of ts e) rounds ∙ time-replicate size e 1 (omega (arith, all, fits))) ∙ none))
      (λ h. false≢true (sym (ap (λ (bs : List Bool). member bs e) sure ∙ member-replicate size e) ∙ h)) told);
}

-- ---- what is beside a part of a formula

-- what is true under no event and what is held stays true
pub held-stays : (none held es xs : NumberSet) (formula : Formula) → ((n : ℕ) → none n ≡ false) → ((n : ℕ) → Has held n → Has xs n) → truth none held formula ≡ true → truth es xs formula ≡ true
held-stays none held es xs formula empty more h = truth-grows none es held xs (λ n e. absurd (false≢true (sym (empty n) ∙ e))) more formula h

-- a fact whose formula is true under nothing holds in each round but the first of all
pub constant-made : (system : System) (number : ℕ) (fact : FactInfo) (none no_fact : NumberSet) → IsFact system number fact → ((n : ℕ) → none n ≡ false) → ((n : ℕ) → no_fact n ≡ false) → truth none no_fact fact.formula ≡ true → IsConstant system number
constant-made system number fact none no_fact at no_events no_facts h es q =
    member-map (λ (f : FactInfo). truth es (member (round system es q)) f.formula) system.facts number fact at
    ∙ held-stays none no_fact es (member (round system es q)) fact.formula no_events (λ n e. absurd (false≢true (sym (no_facts n) ∙ e))) h

-- two parts that are true
pub all-two : (es xs : NumberSet) (parts : List Formula) (first second d e : Formula) → length parts ≡ 2 → first ≡ get_or parts 0 d → second ≡ get_or parts 1 e → truth es xs first ≡ true → truth es xs second ≡ true → list_all (λ b. b) (map (truth es xs) parts) ≡ true
all-two es xs [] first second d e two at next h k = absurd (omega (arith, two))
all-two es xs (a ∷ []) first second d e two at next h k = absurd (omega (arith, two))
all-two es xs (a ∷ b ∷ []) first second d e two at next h k =
    and_from (truth es xs a) (truth es xs b && true) (ap (truth es xs) (sym at) ∙ h) (and_from (truth es xs b) true (ap (truth es xs) (sym next) ∙ k) refl)
all-two es xs (a ∷ b ∷ c ∷ parts) first second d e two at next h k = absurd (omega (arith, two))

-- constant facts, and one more
pub constant-put : (system : System) (number : ℕ) (old new : List Bool) → AreConstant system (member old) → IsConstant system number → new ≡ set old number true → AreConstant system (member new)
constant-put system number old new are is made n h =
    ⊎_elim (λ here. subst (IsConstant system) (sym here) is) (λ was. are n was) (member-put old number n (subst (λ (bs : List Bool). Has (member bs) n) made h))

-- ---- the rows that columns tell

module _ (system : System) (event : ℕ) (base : List ℕ) (none : IsTable system no_event base) (fits : event < length system.events) where
  idle : (n : ℕ) → time_of base n ≡ 0 → Holds system no_event n → ⊥
  idle n e = subst (IsRoundOf system no_event n) e ((table-rounds system no_event base none).each n)

  column-row : (column : Column) → IsColumn system column.effect column → IsToldAt column event
      → row_if (is_new base column.effect (time_of column.rounds.items event)) event column.effect (time_of column.rounds.items event)
      ≡ (if is_reached system event column.effect then row_of system event column.effect ∷ [] else [])
  column-row column is told = one-row system event column.effect (time_of base column.effect) (time_of column.rounds.items event)
      ((table-rounds system no_event base none).each column.effect) (λ e. is.rounds_are event fits (idle column.effect e) told)

  rows-of-columns : (columns : List Column) → All (λ column. IsColumn system column.effect column) columns → All (λ column. IsToldAt column event) columns
      → column_rows base event columns ≡ flat_map (λ n. if is_reached system event n then row_of system event n ∷ [] else []) (map (λ column. column.effect) columns)
  rows-of-columns [] are told = refl
  rows-of-columns (column ∷ columns) are told =
      let is : Column → Type 0 = λ (c : Column). IsColumn system c.effect c in
      let told_at : Column → Type 0 = λ (c : Column). IsToldAt c event in
      let head = column-row column (All-head is column columns are) (All-head told_at column columns told) in
      let tail = rows-of-columns columns (All-tail is column columns are) (All-tail told_at column columns told) in
      λ i. head i ++ tail i

  -- they are the rows of the event
  pub told-rows : (effects : List ℕ) (columns : List Column) → AreColumns system effects columns → All (λ column. IsToldAt column event) columns → column_rows base event columns ≡ event_rows system effects event
  told-rows effects columns are told =
      rows-of-columns columns are.each told ∙ ap (flat_map (λ n. if is_reached system event n then row_of system event n ∷ [] else [])) are.effects_are
      ∙ made-where (is_reached system event) (row_of system event) effects

-- there are columns
pub some-columns : (columns : List Column) → (length columns == 0) ≡ false → columns ≡ [] → ⊥
some-columns columns some none = false≢true (sym some ∙ ap (λ (cs : List Column). length cs == 0) none)

-- no column yet, and one more
pub columns-none : (system : System) → AreColumns system [] []
columns-none system = record { effects_are = refl; each = All-nil (λ (c : Column). IsColumn system c.effect c) }

pub columns-next : (system : System) (effects : List ℕ) (i d : ℕ) (columns : List Column) (column : Column) → i < length effects → AreColumns system (take i effects) columns → IsColumn system (get_or effects i d) column → AreColumns system (take (i + 1) effects) (columns ++ column ∷ [])
columns-next system effects i d columns column fits are is = record {
  effects_are = map-append (λ (c : Column). c.effect) columns (column ∷ []) ∙ (λ k. are.effects_are k ++ is.effect_is k ∷ []) ∙ sym (take_more effects i d fits);
  each = All-push (λ (c : Column). IsColumn system c.effect c) columns column are.each (subst (λ (n : ℕ). IsColumn system n column) (sym is.effect_is) is);
}
