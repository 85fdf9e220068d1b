-- The marking, from some facts alone to the end.
use Rattle.std.proofs.Common.{ℕ, zero, suc, ◌≡◌, ◌≢◌, ◌<◌, ◌≤◌, ◌↔◌, ◌⊎◌, Bool, true, false, ◌&&◌, ◌||◌, not, List, [], ◌∷◌, ◌++◌, length, Some, All, Contains, ⊎_elim, ap, ◌∙◌, sym, subst, refl, arith, ◌==◌}
use Rattle.std.proofs.lemmas.Bool.{false≢true, ne_eqb, or_cases, and_parts, and_from, cases_eq, or_left, or_right}
use Rattle.std.proofs.lemmas.List.Folds.{list_any-append}
use Rattle.std.specs.List.{slice_get}
use Rattle.fault_system.specs.Truth.{NumberSet, Has, count_true, member, set_of, occurs, occurs_event}
use Rattle.fault_system.specs.Systems.{System, IsSystem, IsFact}
use Rattle.fault_system.specs.declared.formula.FactInfo.{FactInfo}
use Rattle.fault_system.proofs.Occurrences.{occurs-in_range, occurs_event-in_range, fact-in_range}
use Rattle.fault_system.proofs.NumberSets.{member-in, contained-in_set, set_of-contained}
use Rattle.std.specs.Prelude.{IfSome, Option, None}
use Rattle.backward_slice.specs.Slices.{DependsOn, DependsOnEvent, most_slice_events, most_slice_facts}
use Rattle.backward_slice.specs.inner.Marks.{Adds, IsMarking}
use Rattle.backward_slice.specs.inner.Reach.{DependsBy, IsReach, IsReachBy, IsReachedBy, IsReachedEventBy, IsSmallReach, all_ways}
use Rattle.backward_slice.specs.declared.marking.Marking.{Marking}
use Rattle.backward_slice.specs.declared.parts.Reach.{Reach}

same_fact : (system : System) (n m : ℕ) (a b : FactInfo) → n ≡ m → IsFact system n a → IsFact system m b → a ≡ b
same_fact system n m a b e f g = some_inner _ _ (sym f ∙ ap (slice_get system.facts) e ∙ g) where
  some_inner : (x y : FactInfo) → Some x ≡ Some y → x ≡ y
  some_inner x y h = cc

done-old : (m w m' w' : Bool) → m' ≡ true → w' ≡ false → m' && not w' ≡ m && not w → (m ≡ true) × (w ≡ false)
done-old true true m' w' e f g = absurd (false≢true (sym g ∙ ap (λ b. b && not w') e ∙ ap not f))
done-old true false m' w' e f g = (refl, refl)
done-old false w m' w' e f g = absurd (false≢true (sym g ∙ ap (λ b. b && not w') e ∙ ap not f))

not-pushed : (w e : Bool) → w ≡ false → e ≡ false → w || (e || false) ≡ false
not-pushed w e h k = ap (λ b. b || (e || false)) h ∙ ap (λ b. b || false) k

-- after a step, what was marked is, and what is marked was or was added
module _ (facts events : NumberSet) (old new : Marking) (adds : Adds facts events old new) where
  pub fact_kept : (n : ℕ) → Has (member old.facts) n → Has (member new.facts) n
  fact_kept n h = adds.facts_are n (member-in old.facts n h) ∙ or_left _ (facts n) h

  pub event_kept : (n : ℕ) → Has (member old.events) n → Has (member new.events) n
  event_kept n h = adds.events_are n (member-in old.events n h) ∙ or_left _ (events n) h

  pub fact_from : (n : ℕ) → Has (member new.facts) n → Has (member old.facts) n ⊎ Has facts n
  fact_from n h = or_cases _ _ (sym (adds.facts_are n (omega (arith, member-in new.facts n h, adds.facts_size))) ∙ h)

  pub event_from : (n : ℕ) → Has (member new.events) n → Has (member old.events) n ⊎ Has events n
  event_from n h = or_cases _ _ (sym (adds.events_are n (omega (arith, member-in new.events n h, adds.events_size))) ∙ h)

module _ (system : System) (ways : ℕ → NumberSet) (from : List ℕ) where
  -- the first facts alone
  pub marking-first : (old new : Marking) → All (λ n. n < length system.facts) from → length old.facts ≡ length system.facts → length old.events ≡ length system.events
      → ((n : ℕ) → member old.facts n ≡ false) → ((n : ℕ) → member old.events n ≡ false)
      → Adds (set_of from) (λ n. false) old new → IsMarking system ways from new.facts new.events new.waiting.items
  marking-first old new ranged facts_long events_long no_facts no_events adds =
      record {
        facts_size = adds.facts_size ∙ facts_long;
        events_size = adds.events_size ∙ events_long;
        starts = λ n among. adds.facts_are n (omega (arith, below n among, facts_long)) ∙ or_right (member old.facts n) _ (contained-in_set from n among);
        facts_right = λ n h. ⊎_elim
            (λ was. absurd (false≢true (sym (no_facts n) ∙ was)))
            (λ first. (n, set_of-contained from n first, (λ set causes has. has)))
            (fact_from (set_of from) (λ n. false) old new adds n h);
        events_right = λ n h. ⊎_elim
            (λ was. absurd (false≢true (sym (no_events n) ∙ was)))
            (λ none. absurd (false≢true none))
            (event_from (set_of from) (λ n. false) old new adds n h);
        facts_done = λ n m fact h left at low o led. absurd (none n h left);
        events_done = λ n m fact h left at low o. absurd (none n h left);
      } where
        below : (n : ℕ) → Contains from n → n < length system.facts
        below n (k, fits, is) = subst (λ m. m < length system.facts) is (ranged k n fits)

        none : (n : ℕ) → Has (member new.facts) n → set_of new.waiting.items n ≡ false → ⊥
        none n h left = false≢true (sym (no_facts n) ∙ (done-old (member old.facts n) (set_of old.waiting.items n) _ _ h left (adds.done n)).0)

  module _ (number : ℕ) (old new : Marking) where
    -- the formula of the fact that no longer waits was looked at
    pub marking-next : IsMarking system ways from old.facts old.events (old.waiting.items ++ number ∷ []) → Has (member old.facts) number → (fact : FactInfo) → IsFact system number fact
        → Adds (λ n. occurs n fact.formula && ways number n) (λ n. occurs_event n fact.formula) old new → IsMarking system ways from new.facts new.events new.waiting.items
    marking-next is marked fact at adds =
        record {
          facts_size = adds.facts_size ∙ is.facts_size;
          events_size = adds.events_size ∙ is.events_size;
          starts = λ n among. fact_kept f e old new adds n (is.starts n among);
          facts_right = λ n h. ⊎_elim (is.facts_right n)
              (λ both. let (occurred, led) = and_parts (occurs n fact.formula) (ways number n) both in let (start, among, depends) = is.facts_right number marked in
              (start, among, (λ set causes has. causes number n fact (depends set causes has) at occurred led)))
              (fact_from f e old new adds n h);
          events_right = λ n h. ⊎_elim (is.events_right n)
              (λ o. (number, fact, is.facts_right number marked, at, o))
              (event_from f e old new adds n h);
          facts_done = λ n m other h left there low o led. ⊎_elim
              (λ same. adds.facts_are m (omega (arith, is.facts_size)) ∙ or_right (member old.facts m) (f m)
              (and_from _ _ (subst (λ (g : FactInfo). occurs m g.formula ≡ true) (same_fact system n number other fact same there at) o) (subst (λ k. ways k m ≡ true) same led)))
              (λ differ. let was = before n h left differ in fact_kept f e old new adds m (is.facts_done n m other was.0 was.1 there low o led))
              (cases_eq n number);
          events_done = λ n m other h left there low o. ⊎_elim
              (λ same. adds.events_are m (omega (arith, is.events_size)) ∙ or_right (member old.events m) (e m)
              (subst (λ (g : FactInfo). occurs_event m g.formula ≡ true) (same_fact system n number other fact same there at) o))
              (λ differ. let was = before n h left differ in event_kept f e old new adds m (is.events_done n m other was.0 was.1 there low o))
              (cases_eq n number);
        } where
          f : NumberSet
          f n = occurs n fact.formula && ways number n

          e : NumberSet
          e n = occurs_event n fact.formula

          before : (n : ℕ) → Has (member new.facts) n → set_of new.waiting.items n ≡ false → n ≢ number → Has (member old.facts) n × (set_of (old.waiting.items ++ number ∷ []) n ≡ false)
          before n h left differ =
              let was = done-old (member old.facts n) (set_of old.waiting.items n) (member new.facts n) (set_of new.waiting.items n) h left (adds.done n) in
              (was.0, list_any-append (λ k. k == n) old.waiting.items (number ∷ []) ∙ not-pushed _ _ was.1 (ne_eqb number n (λ same. differ (sym same))))

  -- a number that is no marked fact needs no step
  pub marking-past : (number : ℕ) (facts events : List Bool) (waiting : List ℕ) → IsMarking system ways from facts events (waiting ++ number ∷ []) → ((fact : FactInfo) → Has (member facts) number → IsFact system number fact → ⊥) → IsMarking system ways from facts events waiting
  marking-past number facts events waiting is none =
      record {
        facts_size = is.facts_size;
        events_size = is.events_size;
        starts = is.starts;
        facts_right = is.facts_right;
        events_right = is.events_right;
        facts_done = λ n m fact h left at low o led. is.facts_done n m fact h (still n fact h left at) at low o led;
        events_done = λ n m fact h left at low o. is.events_done n m fact h (still n fact h left at) at low o;
      } where
        still : (n : ℕ) (fact : FactInfo) → Has (member facts) n → set_of waiting n ≡ false → IsFact system n fact → set_of (waiting ++ number ∷ []) n ≡ false
        still n fact h left at =
            list_any-append (λ k. k == n) waiting (number ∷ [])
            ∙ not-pushed _ _ left (ne_eqb number n (λ same. none fact (subst (Has (member facts)) (sym same) h) (subst (λ k. IsFact system k fact) (sym same) at)))

  -- where none waits, exactly that is marked which is reached
  pub marking-end : (reach : Reach) → IsSystem system → IsMarking system ways from reach.facts reach.events [] → IsReachBy system ways from reach
  marking-end reach is_system is =
      record {
        facts_size = is.facts_size;
        events_size = is.events_size;
        facts = λ n. (is.facts_right n, facts n);
        events = λ n. (is.events_right n, events n);
      } where
        facts : (n : ℕ) → IsReachedBy system ways from n → Has (member reach.facts) n
        facts n (start, among, depends) =
            depends (member reach.facts)
            (λ k m fact has at o led. is.facts_done k m fact has refl at (occurs-in_range _ _ m fact.formula (fact-in_range system is_system k fact at) o) o led) (is.starts start among)

        events : (n : ℕ) → IsReachedEventBy system ways from n → Has (member reach.events) n
        events n (m, fact, reached, at, o) =
            is.events_done m n fact (facts m reached) refl at (occurs_event-in_range _ _ n fact.formula (fact-in_range system is_system m fact at) o) o

-- where it is gone from each fact to all facts in its formula, that is what the facts depend on
pub reach-is : (system : System) (from : List ℕ) (reach : Reach) → IsReachBy system all_ways from reach → IsReach system from reach
reach-is system from reach is =
    record {
      facts_size = is.facts_size;
      events_size = is.events_size;
      facts = λ n. (
        (λ h. let (start, among, by) = (is.facts n).0 h in (start, among, on start n by)),
        (λ (start, among, depends). (is.facts n).1 (start, among, back start n depends)),
      );
      events = λ n. (
        (λ h. let (m, fact, (start, among, by), at, o) = (is.events n).0 h in (m, fact, (start, among, on start m by), at, o)),
        (λ (m, fact, (start, among, depends), at, o). (is.events n).1 (m, fact, (start, among, back start m depends), at, o)),
      );
    } where
      on : (n m : ℕ) → DependsBy system all_ways n m → DependsOn system n m
      on n m by set causes has = by set (λ k l fact h at o led. causes k l fact h at o) has

      back : (n m : ℕ) → DependsOn system n m → DependsBy system all_ways n m
      back n m depends set causes has = depends set (λ k l fact h at o. causes k l fact h at o refl) has

-- the reach of one fact
module _ (system : System) (target : ℕ) (reach : Reach) (is : IsReach system (target ∷ []) reach) where
  only : (start : ℕ) → Contains (target ∷ []) start → target ≡ start
  only start (zero, fits, same) = same
  only start (suc k, fits, same) = absurd (omega arith)

  pub reach-fact : (n : ℕ) → Has (member reach.facts) n ↔ DependsOn system target n
  reach-fact n = (
    (λ h. let (start, among, depends) = (is.facts n).0 h in subst (λ k. DependsOn system k n) (sym (only start among)) depends),
    (λ depends. (is.facts n).1 (target, (zero, omega arith, refl), depends)),
  )

  pub reach-event : (n : ℕ) → Has (member reach.events) n ↔ DependsOnEvent system target n
  reach-event n = (
    (λ h. let (m, fact, (start, among, depends), at, o) = (is.events n).0 h in (m, fact, subst (λ k. DependsOn system k m) (sym (only start among)) depends, at, o)),
    (λ (m, fact, depends, at, o). (is.events n).1 (m, fact, (target, (zero, omega arith, refl), depends), at, o)),
  )

-- a reach that was found to be small
pub small-is : (system : System) (from : List ℕ) (reach : Reach) (found : Option Reach) → IsReachBy system all_ways from reach
    → IfSome found (λ small. (small ≡ reach) × (count_true small.facts ≤ most_slice_facts) × (count_true small.events ≤ most_slice_events)) → IfSome found (IsSmallReach system from)
small-is system from reach None is few = tt
small-is system from reach (Some small) is (same, few_facts, few_events) =
    record { is_reach = subst (IsReach system from) (sym same) (reach-is system from reach is); few_facts = few_facts; few_events = few_events }
