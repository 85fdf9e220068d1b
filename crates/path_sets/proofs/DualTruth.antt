-- In a system in which no fact reaches itself a fact holds in the dual under some events exactly where it does not hold in the
-- system under the events outside of them.
use Rattle.std.proofs.Common.{ℕ, ◌≡◌, ◌<◌, ◌⊎◌, ◌↔◌, Bool, true, false, not, List, [], ◌∷◌, map, length, All, inl, inr, ⊎_elim, ap, ◌∙◌, sym, subst, refl, arith}
use Rattle.std.proofs.lemmas.Bool.{false≢true, eq-eqb, cases_Bool, not-true, or_left, or_right}
use Rattle.std.proofs.lemmas.List.Elements.{All-map}
use Rattle.std.proofs.lemmas.Option.{slice_get-map, slice_get_cases}
use Rattle.std.specs.List.{list_any}
use Rattle.std.specs.Option.{option_map}
use lib.ListN.{length-map}
use Rattle.fault_system.specs.Truth.{NumberSet, member, truth, truth_step, occurs, occurs_step, in_range}
use Rattle.fault_system.specs.Systems.{System, IsSystem, IsFact, NamesDiffer, applied, IsClosed, Holds, holds_of}
use Rattle.fault_system.specs.declared.formula.FactInfo.{FactInfo}
use Rattle.fault_system.specs.declared.formula.Formula.{Formula, map-Formula, roll-Formula, fold-roll-Formula, ind-Formula}
use Rattle.fault_system.specs.declared.formula.Formula.TheOpen.{Formula-F, True, Event, Fact, And, Or, AtLeast}
use Rattle.fault_system.proofs.Marks.{Below, Below-all, Below-any, Below-at_least}
use Rattle.fault_system.proofs.NumberSets.{member-map, member-past, same_set}
use Rattle.fault_system.proofs.HoldsLaws.{holds_of-fixed, holds_of-exact}
use Rattle.fault_system.proofs.Occurrences.{occurs-in_range, fact-in_range}
use Rattle.path_sets.specs.Duals.{dual_fact, dual_of}
use Rattle.path_sets.specs.inner.Duals.{IsWithoutFeedback, outside}
use Rattle.path_sets.proofs.Opposites.{dual-in_range, dual-opposite, not_not}
use Rattle.path_sets.proofs.Descents.{Descends, no-descent}

-- ---- where the truth of a formula differs, it differs at a fact that occurs in it

cases : (a b : Bool) → (a ≡ true → b ≡ true) ⊎ ((a ≡ true) × (b ≡ false))
cases true true = inl (λ e. refl)
cases true false = inr (refl, refl)
cases false b = inl (λ e. absurd (false≢true e))

module _ (es xs ys : NumberSet) where
  -- a number of those that are told is in the one set and not in the other
  abbrev Differs : (ℕ → Bool) → Type 0
  Differs told = (m : ℕ) × (told m ≡ true) × (xs m ≡ true) × (ys m ≡ false)

  abbrev Found : Formula → Type 0
  Found f = truth es xs f ≡ true → truth es ys f ≡ false → Differs (λ m. occurs m f)

  abbrev Part : Type 0
  Part = (f : Formula) × Found f

  abbrev Layer : Formula-F Formula → Type 0
  Layer x = truth_step es xs (map-Formula Formula Bool (truth es xs) x) ≡ true → truth_step es ys (map-Formula Formula Bool (truth es ys) x) ≡ false → Differs (λ m. occurs_step m (map-Formula Formula Bool (occurs m) x))

  abbrev InParts : List Part → Type 0
  InParts ps = Differs (λ m. list_any (λ b. b) (map (occurs m) (map (λ p. p.0) ps)))

  abbrev Kept : List Part → Type 0
  Kept ps = Below (map (truth es xs) (map (λ p. p.0) ps)) (map (truth es ys) (map (λ p. p.0) ps))

  parts : (ps : List Part) → Kept ps ⊎ InParts ps
  parts [] = inl tt
  parts (p ∷ ps) = by (cases (truth es xs p.0) (truth es ys p.0)) (parts ps) where
    by : (truth es xs p.0 ≡ true → truth es ys p.0 ≡ true) ⊎ ((truth es xs p.0 ≡ true) × (truth es ys p.0 ≡ false)) → Kept ps ⊎ InParts ps → Kept (p ∷ ps) ⊎ InParts (p ∷ ps)
    by (inr (e, f)) rest = let (m, o, a, b) = p.1 e f in inr (m, or_left _ _ o, a, b)
    by (inl here) (inr (m, o, a, b)) = inr (m, or_right _ _ o, a, b)
    by (inl here) (inl below) = inl (here, below)

  layer : (y : Formula-F Part) → Layer (map-Formula Part Formula (λ p. p.0) y)
  layer True e f = absurd (false≢true (sym f))
  layer (Event n) e f = absurd (false≢true (sym f ∙ e))
  layer (Fact n) e f = (n, eq-eqb n n refl, e, f)
  layer (And ps) e f = ⊎_elim (λ below. absurd (false≢true (sym f ∙ Below-all _ _ below e))) (λ d. d) (parts ps)
  layer (Or ps) e f = ⊎_elim (λ below. absurd (false≢true (sym f ∙ Below-any _ _ below e))) (λ d. d) (parts ps)
  layer (AtLeast k ps) e f = ⊎_elim (λ below. absurd (false≢true (sym f ∙ Below-at_least k _ _ below e))) (λ d. d) (parts ps)

  rolled : (x : Formula-F Formula) → Layer x → Found (roll-Formula x)
  rolled x found e f =
      let (m, o, a, b) = found (sym (fold-roll-Formula Bool (truth_step es xs) x) ∙ e) (sym (fold-roll-Formula Bool (truth_step es ys) x) ∙ f) in
      (m, fold-roll-Formula Bool (occurs_step m) x ∙ o, a, b)

  -- a formula that is true under the one set of facts and not under the other has a fact that is in the one and not in the other
  pub differs-at : (f : Formula) → truth es xs f ≡ true → truth es ys f ≡ false → Differs (λ m. occurs m f)
  differs-at = ind-Formula Found (λ x y is. rolled x (subst Layer is (layer y)))

-- ---- the law

pub fact-at : (system : System) (n : ℕ) → n < length system.facts → (fact : FactInfo) × IsFact system n fact
fact-at system n inside = ⊎_elim (λ (fact, fits, at, same). (fact, at)) (λ past. absurd (omega (arith, past.0))) (slice_get_cases system.facts n).1

pub dual-at : (system : System) (n : ℕ) (fact : FactInfo) → IsFact system n fact → IsFact (dual_of system) n (dual_fact fact)
dual-at system n fact at = slice_get-map dual_fact system.facts n ∙ ap (option_map dual_fact) at

module _ (system : System) (is : IsSystem system) (free : IsWithoutFeedback system) (es : NumberSet) where
  abbrev holds : NumberSet
  holds = member (holds_of system (outside es))

  abbrev fails : NumberSet
  fails = member (holds_of (dual_of system) es)

  holds-at : (n : ℕ) (fact : FactInfo) → IsFact system n fact → holds n ≡ truth (outside es) holds fact.formula
  holds-at n fact at =
      ap (λ marks. member marks n) (holds_of-fixed system (outside es))
      ∙ member-map (λ (info : FactInfo). truth (outside es) holds info.formula) system.facts n fact at

  dual-truth : (xs : NumberSet) (n : ℕ) (fact : FactInfo) → IsFact system n fact → member (applied (dual_of system) es xs) n ≡ not (truth (outside es) (outside xs) fact.formula)
  dual-truth xs n fact at =
      member-map (λ (info : FactInfo). truth es xs info.formula) (dual_of system).facts n (dual_fact fact) (dual-at system n fact at)
      ∙ dual-opposite es xs fact.formula

  fails-at : (n : ℕ) (fact : FactInfo) → IsFact system n fact → fails n ≡ not (truth (outside es) (outside fails) fact.formula)
  fails-at n fact at = ap (λ marks. member marks n) (holds_of-fixed (dual_of system) es) ∙ dual-truth fails n fact at

  -- what does not hold is closed for the dual
  closed : IsClosed (dual_of system) es (outside holds)
  closed n h = ⊎_elim
      (λ (fact, fits, at, same).
      ap not (holds-at n fact at)
      ∙ ap (λ (set : NumberSet). not (truth (outside es) set fact.formula)) (sym (same_set (λ m. not_not (holds m))))
      ∙ sym (dual-truth (outside holds) n fact at) ∙ h)
      (λ past. absurd (false≢true (sym (member-past (λ (info : FactInfo). truth es (outside holds) info.formula) (dual_of system).facts n (slice_get-map dual_fact system.facts n ∙ ap (option_map dual_fact) past.1)) ∙ h)))
      (slice_get_cases system.facts n).1

  pub dual-apart : (n : ℕ) → Holds (dual_of system) es n → Holds system (outside es) n → ⊥
  dual-apart n dual here =
      let on : holds n ≡ true = (holds_of-exact system (outside es) n).1 here in
      let off : not (holds n) ≡ true = dual (outside holds) closed in
      false≢true (sym (ap not on) ∙ off)

  -- a fact that holds neither in the system nor in the dual
  abbrev Neither : ℕ → Type 0
  Neither n = (n < length system.facts) × (holds n ≡ false) × (fails n ≡ false)

  falls : (n : ℕ) → Neither n → Descends system free Neither n
  falls n (inside, off, unfailing) =
      let (fact, at) = fact-at system n inside in
      let (m, o, a, b) = differs-at (outside es) (outside fails) holds fact.formula
      (sym (not_not (truth (outside es) (outside fails) fact.formula)) ∙ ap not (sym (fails-at n fact at) ∙ unfailing))
      (sym (holds-at n fact at) ∙ off) in
      (fact, m, at, o, (occurs-in_range (length system.facts) (length system.events) m fact.formula (fact-in_range system is n fact at) o, b, not-true (fails m) a))

  pub dual-either : (n : ℕ) → n < length system.facts → (Holds system (outside es) n → ⊥) → Holds (dual_of system) es n
  dual-either n inside none = ⊎_elim
      (λ on. (holds_of-exact (dual_of system) es n).0 on)
      (λ unfailing. absurd (⊎_elim (λ on. none ((holds_of-exact system (outside es) n).0 on)) (λ off. no-descent system free Neither falls n (inside, off, unfailing)) (cases_Bool (holds n))))
      (cases_Bool (fails n))

  -- a fact holds in the dual exactly where it does not hold in the system under the events outside
  pub dual-holds : (n : ℕ) → n < length system.facts → Holds (dual_of system) es n ↔ (Holds system (outside es) n → ⊥)
  dual-holds n inside = (dual-apart n, dual-either n inside)

-- ---- the dual is a system

names-stay : (facts : List FactInfo) → map (λ fact. fact.name) facts ≡ map (λ fact. fact.name) (map dual_fact facts)
names-stay [] = refl
names-stay (fact ∷ facts) = ap (λ names. fact.name ∷ names) (names-stay facts)

pub dual-system : (system : System) → IsSystem system → IsSystem (dual_of system)
dual-system system is =
    record {
      ranged = subst (λ count. All (λ (fact : FactInfo). in_range count (length system.events) fact.formula ≡ true) (map dual_fact system.facts)) (sym (length-map system.facts dual_fact))
          (All-map (λ (fact : FactInfo). in_range (length system.facts) (length system.events) fact.formula ≡ true) dual_fact system.facts
          (λ k d h. dual-in_range (length system.facts) (length system.events) _ (is.ranged k d h)));
      facts_named = subst NamesDiffer (names-stay system.facts) is.facts_named;
      events_named = is.events_named;
    }
