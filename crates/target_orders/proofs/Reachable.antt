-- Each fact has a slice: what it depends on is found by as many rounds as there are facts.
use Rattle.std.proofs.Common.{ℕ, zero, suc, ◌≡◌, ◌<◌, ◌⊎◌, Bool, true, false, ◌&&◌, ◌||◌, eqb, List, [], ◌∷◌, length, filter, Some, inl, inr, ⊎_elim, ap, ◌∙◌, sym, refl, subst, arith, eqb-true, eq-eqb}
use Rattle.std.specs.List.{slice_get}
use Rattle.std.proofs.lemmas.Bool.{false≢true, and_from, and_parts, or_cases, or_left, or_right}
use Rattle.plain_values.specs.Numbered.{numbers_below}
use Rattle.fault_system.specs.Truth.{NumberSet, Has, member, count_true, occurs, occurs_event}
use Rattle.fault_system.specs.Systems.{System, IsSystem}
use Rattle.fault_system.specs.declared.formula.FactInfo.{FactInfo}
use Rattle.fault_system.proofs.Elements.{In-contains, In-filter, In-filtered, contains_In}
use Rattle.fault_system.proofs.Marks.{Below, Below-member, stay_or_grow}
use Rattle.fault_system.proofs.NumberSets.{RisesWithin-filter, member-in}
use Rattle.fault_system.proofs.Occurrences.{fact-in_range, occurs-in_range, occurs_event-in_range}
use Rattle.fault_system.proofs.TruthLaws.{count_true-le}
use Rattle.backward_slice.specs.Slices.{DependsOn, DependsOnEvent, HasItsCauses, IsSlice}
use Rattle.backward_slice.specs.declared.parts.Slice.{Slice}
use Rattle.dependency_blocks.proofs.AllFacts.{below-contained}
use Rattle.target_orders.proofs.Reached.{rises-below}

-- the marks of the numbers below a count that are in a set
abbrev marks_of : ℕ → NumberSet → List Bool
marks_of zero set = []
marks_of (suc count) set = set zero ∷ marks_of count (λ n. set (suc n))

length-marks : (count : ℕ) (set : NumberSet) → length (marks_of count set) ≡ count
length-marks zero set = refl
length-marks (suc count) set = omega (arith, length-marks count (λ n. set (suc n)))

member-marks : (count : ℕ) (set : NumberSet) (n : ℕ) → n < count → member (marks_of count set) n ≡ set n
member-marks zero set n h = absurd (omega arith)
member-marks (suc count) set zero h = refl
member-marks (suc count) set (suc n) h = member-marks count (λ k. set (suc k)) n (omega arith)

marks-in : (count : ℕ) (set : NumberSet) (n : ℕ) → Has (member (marks_of count set)) n → Has set n
marks-in count set n e = sym (member-marks count set n (subst (λ k. n < k) (length-marks count set) (member-in (marks_of count set) n e))) ∙ e

marks-below : (count : ℕ) (a b : NumberSet) → ((n : ℕ) → Has a n → Has b n) → Below (marks_of count a) (marks_of count b)
marks-below zero a b h = tt
marks-below (suc count) a b h = (h zero, marks-below count (λ n. a (suc n)) (λ n. b (suc n)) (λ n. h (suc n)))

-- whether a fact of a set passes a test
abbrev used : (FactInfo → Bool) → NumberSet → List FactInfo → Bool
used test set [] = false
used test set (fact ∷ facts) = (test fact && set zero) || used test (λ n. set (suc n)) facts

used-at : (test : FactInfo → Bool) (set : NumberSet) (facts : List FactInfo) (n : ℕ) (fact : FactInfo) → slice_get facts n ≡ Some fact → test fact ≡ true → Has set n → used test set facts ≡ true
used-at test set [] n fact at t h = absurd (cc)
used-at test set (f ∷ facts) zero fact at t h = let same : f ≡ fact = cc in or_left (test f && set zero) _ (and_from (test f) (set zero) (ap test same ∙ t) h)
used-at test set (f ∷ facts) (suc n) fact at t h = or_right (test f && set zero) _ (used-at test (λ k. set (suc k)) facts n fact at t h)

used-from : (test : FactInfo → Bool) (set : NumberSet) (facts : List FactInfo) → used test set facts ≡ true
    → (n : ℕ) × (fact : FactInfo) × (slice_get facts n ≡ Some fact) × (test fact ≡ true) × Has set n
used-from test set [] u = absurd (false≢true u)
used-from test set (f ∷ facts) u = ⊎_elim
    (λ here. let both = and_parts (test f) (set zero) here in (zero, f, refl, both.0, both.1))
    (λ there. let found = used-from test (λ k. set (suc k)) facts there in (suc found.0, found.1, found.2, found.3, found.4))
    (or_cases (test f && set zero) (used test (λ n. set (suc n)) facts) u)

used-grows : (test : FactInfo → Bool) (a b : NumberSet) → ((n : ℕ) → Has a n → Has b n) → (facts : List FactInfo) → used test a facts ≡ true → used test b facts ≡ true
used-grows test a b more facts u =
    let found = used-from test a facts u in used-at test b facts found.0 found.1 found.2 found.3 (more found.0 found.4)

module _ (system : System) (target : ℕ) where
  -- the target, and the facts in the formulas of a set
  abbrev led : NumberSet → NumberSet
  led set m = eqb m target || used (λ fact. occurs m fact.formula) set system.facts

  led-grows : (a b : NumberSet) → ((n : ℕ) → Has a n → Has b n) → (n : ℕ) → Has (led a) n → Has (led b) n
  led-grows a b more n h = ⊎_elim
      (λ t. or_left (eqb n target) _ t)
      (λ u. or_right (eqb n target) _ (used-grows (λ fact. occurs n fact.formula) a b more system.facts u))
      (or_cases (eqb n target) (used (λ fact. occurs n fact.formula) a system.facts) h)

  abbrev reached : ℕ → List Bool
  reached zero = marks_of (length system.facts) (λ _. false)
  reached (suc r) = marks_of (length system.facts) (led (member (reached r)))

  length-reached : (r : ℕ) → length (reached r) ≡ length system.facts
  length-reached zero = length-marks (length system.facts) (λ _. false)
  length-reached (suc r) = length-marks (length system.facts) (led (member (reached r)))

  reached_below : (r : ℕ) → Below (reached r) (reached (suc r))
  reached_below zero = marks-below (length system.facts) (λ _. false) (led (member (reached zero))) (λ n e. absurd (false≢true e))
  reached_below (suc r) = marks-below (length system.facts) (led (member (reached r))) (led (member (reached (suc r))))
      (led-grows (member (reached r)) (member (reached (suc r))) (Below-member _ _ (reached_below r)))

  -- after each round nothing changes any more, or there are as many facts as rounds
  stays_or_has : (r : ℕ) → (reached r ≡ reached (suc r)) ⊎ (r < count_true (reached (suc r)))
  stays_or_has zero = ⊎_elim (λ e. inl e) (λ l. inr (omega arith)) (stay_or_grow _ _ (reached_below zero))
  stays_or_has (suc r) = ⊎_elim (λ e. inl (ap (λ marks. marks_of (length system.facts) (led (member marks))) e))
      (λ before. ⊎_elim (λ e. inl e) (λ l. inr (omega arith)) (stay_or_grow _ _ (reached_below (suc r))))
      (stays_or_has r)

  abbrev reach : List Bool
  reach = reached (length system.facts)

  reach-fixed : reach ≡ reached (suc (length system.facts))
  reach-fixed = ⊎_elim (λ e. e) (λ l. absurd (omega (arith, count_true-le (reached (suc (length system.facts))), length-reached (suc (length system.facts)))))
      (stays_or_has (length system.facts))

  reach-least : (xs : NumberSet) → ((n : ℕ) → Has (led xs) n → Has xs n) → (r n : ℕ) → Has (member (reached r)) n → Has xs n
  reach-least xs closed zero n e = absurd (false≢true (marks-in (length system.facts) (λ _. false) n e))
  reach-least xs closed (suc r) n e =
      closed n (led-grows (member (reached r)) xs (reach-least xs closed r) n (marks-in (length system.facts) (led (member (reached r))) n e))

  reach-in : (n : ℕ) → Has (member reach) n → n < length system.facts
  reach-in n has = subst (λ k. n < k) (length-reached (length system.facts)) (member-in reach n has)

  module _ (is : IsSystem system) (here : target < length system.facts) where
    in_reach : (m : ℕ) → m < length system.facts → Has (led (member reach)) m → Has (member reach) m
    in_reach m h e = ap (λ (marks : List Bool). member marks m) reach-fixed ∙ member-marks (length system.facts) (led (member reach)) m h ∙ e

    reach-causes : HasItsCauses system (member reach)
    reach-causes n m fact has at o =
        in_reach m (occurs-in_range (length system.facts) (length system.events) m fact.formula (fact-in_range system is n fact at) o)
        (or_right (eqb m target) _ (used-at (λ f. occurs m f.formula) (member reach) system.facts n fact at o has))

    led_on : (xs : NumberSet) → HasItsCauses system xs → Has xs target → (m : ℕ) → Has (led xs) m → Has xs m
    led_on xs causes has m l = ⊎_elim
        (λ t. subst (Has xs) (sym (eqb-true m target t)) has)
        (λ u. let found = used-from (λ fact. occurs m fact.formula) xs system.facts u in causes found.0 m found.1 found.4 found.2 found.3)
        (or_cases (eqb m target) (used (λ fact. occurs m fact.formula) xs system.facts) l)

    reach-from : (n : ℕ) → Has (member reach) n → DependsOn system target n
    reach-from n e xs causes has = reach-least xs (led_on xs causes has) (length system.facts) n e

    reach-all : (n : ℕ) → DependsOn system target n → Has (member reach) n
    reach-all n depends = depends (member reach) reach-causes (in_reach target here (or_left (eqb target target) _ (eq-eqb target target refl)))

    abbrev events_of : NumberSet
    events_of event = used (λ fact. occurs_event event fact.formula) (member reach) system.facts

    events-from : (event : ℕ) → Has events_of event → DependsOnEvent system target event
    events-from event u =
        let found = used-from (λ fact. occurs_event event fact.formula) (member reach) system.facts u in (found.0, found.1, reach-from found.0 found.4, found.2, found.3)

    events-all : (event : ℕ) → DependsOnEvent system target event → (event < length system.events) × Has events_of event
    events-all event (n, fact, depends, at, o) = (
      occurs_event-in_range (length system.facts) (length system.events) event fact.formula (fact-in_range system is n fact at) o,
      used-at (λ f. occurs_event event f.formula) (member reach) system.facts n fact at o (reach-all n depends),
    )

    abbrev whole : Slice
    whole = record { target = target; facts = filter (member reach) (numbers_below (length system.facts)); events = filter events_of (numbers_below (length system.events)) }

    whole-is : IsSlice system target whole
    whole-is = record {
      target_is = refl;
      facts = λ n. (
        (λ c. reach-from n (In-filter (member reach) n (numbers_below (length system.facts)) (In-contains n (filter (member reach) (numbers_below (length system.facts))) c)).1),
        (λ depends. let has = reach-all n depends in contains_In n (filter (member reach) (numbers_below (length system.facts)))
            (In-filtered (member reach) n (numbers_below (length system.facts)) has (In-contains n (numbers_below (length system.facts)) ((below-contained (length system.facts) n).1 (reach-in n has))))),
      );
      events = λ n. (
        (λ c. events-from n (In-filter events_of n (numbers_below (length system.events)) (In-contains n (filter events_of (numbers_below (length system.events))) c)).1),
        (λ depends. let both = events-all n depends in contains_In n (filter events_of (numbers_below (length system.events)))
            (In-filtered events_of n (numbers_below (length system.events)) both.1 (In-contains n (numbers_below (length system.events)) ((below-contained (length system.events) n).1 both.0)))),
      );
      facts_rise = RisesWithin-filter (member reach) 0 (length system.facts) (numbers_below (length system.facts)) (rises-below (length system.facts));
      events_rise = RisesWithin-filter events_of 0 (length system.events) (numbers_below (length system.events)) (rises-below (length system.events));
    }

    -- each fact has a slice
    pub has-slice : (slice : Slice) × IsSlice system target slice
    has-slice = (whole, whole-is)
