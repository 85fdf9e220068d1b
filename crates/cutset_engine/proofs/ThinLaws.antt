-- What is left of a formula and of a system: when it is true, and that it is a system.
use Rattle.std.proofs.Common.{ℕ, ◌≡◌, Bool, true, false, cond, not, ◌&&◌, ◌==◌, List, [], ◌∷◌, map, length, All, ap, ◌∙◌, sym, subst, refl, eqb-true}
use Rattle.std.proofs.lemmas.Bool.{false≢true, and_from, and_parts}
use Rattle.std.proofs.lemmas.List.Elements.{All-map}
use Rattle.std.specs.List.{list_all, list_any}
use lib.ListN.{length-map}
use Rattle.fault_system.specs.Truth.{NumberSet, Has, member, truth, truth_step, in_range, in_range_step}
use Rattle.fault_system.specs.Systems.{System, IsSystem, NamesDiffer, applied, Holds}
use Rattle.fault_system.specs.declared.formula.EventInfo.{EventInfo}
use Rattle.fault_system.specs.declared.formula.FactInfo.{FactInfo}
use Rattle.fault_system.specs.declared.formula.Formula.{Formula, map-Formula, roll-Formula, fold-roll-Formula, ind-Formula}
use Rattle.fault_system.specs.declared.formula.Formula.TheOpen.{Formula-F, True, Event, Fact, And, Or, AtLeast}
use Rattle.fault_system.specs.declared.formula.Formula.TheVariants as shut
use Rattle.fault_system.proofs.Marks.{Below-member}
use Rattle.fault_system.proofs.HoldsLaws.{applied-grows}
use Rattle.fault_system.proofs.TruthLaws.{truth-And, truth-Or, truth-AtLeast, truth-Event, truth-Fact}
use Rattle.cutset_engine.specs.inner.ThinSystems.{thin_step, thin_formula, thin_fact, thin_of}

-- the events that are not dropped, and the facts but for one
abbrev pub left_events : List Bool → NumberSet → NumberSet
left_events dropped es n = es n && not (member dropped n)

abbrev pub left_facts : ℕ → NumberSet → NumberSet
left_facts but xs n = xs n && not (n == but)

and_none : (b : Bool) → b && false ≡ false
and_none true = refl
and_none false = refl

and_true : (b : Bool) → b && true ≡ b
and_true true = refl
and_true false = refl

-- ---- what is left of a formula is true where the formula is under what is left

module _ (dropped : List Bool) (but : ℕ) (es xs : NumberSet) where
  abbrev Same : Formula → Type 0
  Same f = truth es xs (thin_formula dropped but f) ≡ truth (left_events dropped es) (left_facts but xs) f

  abbrev Part : Type 0
  Part = (f : Formula) × Same f

  abbrev Layer : Formula-F Formula → Type 0
  Layer x = truth es xs (thin_step dropped but (map-Formula Formula Formula (thin_formula dropped but) x)) ≡ truth_step (left_events dropped es) (left_facts but xs) (map-Formula Formula Bool (truth (left_events dropped es) (left_facts but xs)) x)

  abbrev thin : List Part → List Formula
  thin ps = map (thin_formula dropped but) (map (λ p. p.0) ps)

  abbrev other : List Part → List Bool
  other ps = map (truth (left_events dropped es) (left_facts but xs)) (map (λ p. p.0) ps)

  parts : (ps : List Part) → map (truth es xs) (thin ps) ≡ other ps
  parts [] = refl
  parts (p ∷ ps) = λ i. p.1 i ∷ parts ps i

  event : (n : ℕ) (b : Bool) → truth es xs (cond b (shut.Or []) (shut.Event n)) ≡ es n && not b
  event n true = truth-Or es xs [] ∙ sym (and_none (es n))
  event n false = truth-Event es xs n ∙ sym (and_true (es n))

  fact : (n : ℕ) (b : Bool) → truth es xs (cond b (shut.Or []) (shut.Fact n)) ≡ xs n && not b
  fact n true = truth-Or es xs [] ∙ sym (and_none (xs n))
  fact n false = truth-Fact es xs n ∙ sym (and_true (xs n))

  always : truth es xs shut.True ≡ true
  always = ap (truth es xs) (sym shut.rolls-True) ∙ fold-roll-Formula Bool (truth_step es xs) True

  layer : (y : Formula-F Part) → Layer (map-Formula Part Formula (λ p. p.0) y)
  layer True = always
  layer (Event n) = event n (member dropped n)
  layer (Fact n) = fact n (n == but)
  layer (And ps) = truth-And es xs (thin ps) ∙ ap (list_all (λ b. b)) (parts ps)
  layer (Or ps) = truth-Or es xs (thin ps) ∙ ap (list_any (λ b. b)) (parts ps)
  layer (AtLeast k ps) = truth-AtLeast es xs k (thin ps) ∙ ap (λ bs. truth_step (left_events dropped es) (left_facts but xs) (AtLeast k bs)) (parts ps)

  rolled : (x : Formula-F Formula) → Layer x → Same (roll-Formula x)
  rolled x here =
      ap (truth es xs) (fold-roll-Formula Formula (thin_step dropped but) x) ∙ here
      ∙ sym (fold-roll-Formula Bool (truth_step (left_events dropped es) (left_facts but xs)) x)

  pub thin-truth : (f : Formula) → truth es xs (thin_formula dropped but f) ≡ truth (left_events dropped es) (left_facts but xs) f
  thin-truth = ind-Formula Same (λ x y is. rolled x (subst Layer is (layer y)))

  thin_marks : (facts : List FactInfo) → map (λ (f : FactInfo). truth es xs f.formula) (map (thin_fact dropped but) facts) ≡ map (λ (f : FactInfo). truth (left_events dropped es) (left_facts but xs) f.formula) facts
  thin_marks [] = refl
  thin_marks (f ∷ fs) = λ i. thin-truth f.formula i ∷ thin_marks fs i

  pub thin-applied : (system : System) → applied (thin_of dropped but system) es xs ≡ applied system (left_events dropped es) (left_facts but xs)
  thin-applied system = thin_marks system.facts

-- ---- what holds

pub holds-grows : (system : System) (es es' : NumberSet) → ((n : ℕ) → Has es n → Has es' n) → (t : ℕ) → Holds system es t → Holds system es' t
holds-grows system es es' more t h xs closed = h xs (λ n a. closed n (Below-member _ _ (applied-grows es es' xs xs more (λ m k. k) system) n a))

module _ (dropped : List Bool) (target : ℕ) (system : System) (es : NumberSet) where
  -- the target holds in the thin system where it holds under the events that are left
  pub holds-from : Holds (thin_of dropped target system) es target → Holds system (left_events dropped es) target
  holds-from h xs closed = h xs (λ n a.
      closed n (Below-member _ _ (applied-grows (left_events dropped es) (left_events dropped es) (left_facts target xs) xs (λ m k. k) (λ m k. (and_parts _ _ k).0) system) n
      (subst (λ marks. Has (member marks) n) (thin-applied dropped target es xs system) a)))

  pub holds-to : Holds system (left_events dropped es) target → Holds (thin_of dropped target system) es target
  holds-to h xs closed = by (xs target) refl where
    other : (m : ℕ) (b : Bool) → (m == target) ≡ b → Has xs m → xs target ≡ false → not b ≡ true
    other m true same k off = absurd (false≢true (sym off ∙ subst (Has xs) (eqb-true m target same) k))
    other m false same k off = refl

    by : (b : Bool) → xs target ≡ b → Has xs target
    by true on = on
    by false off = h xs (λ n a.
        closed n (subst (λ marks. Has (member marks) n) (sym (thin-applied dropped target es xs system))
        (Below-member _ _ (applied-grows (left_events dropped es) (left_events dropped es) xs (left_facts target xs) (λ m k. k) (λ m k. and_from _ _ k (other m (m == target) refl k off)) system) n a)))

-- ---- the thin system is a system

module _ (facts events : ℕ) (dropped : List Bool) (but : ℕ) where
  abbrev Stays : Formula → Type 0
  Stays f = in_range facts events f ≡ true → in_range facts events (thin_formula dropped but f) ≡ true

  abbrev Kept : Type 0
  Kept = (f : Formula) × Stays f

  abbrev Level : Formula-F Formula → Type 0
  Level x = in_range_step facts events (map-Formula Formula Bool (in_range facts events) x) ≡ true → in_range facts events (thin_step dropped but (map-Formula Formula Formula (thin_formula dropped but) x)) ≡ true

  range-True : in_range facts events shut.True ≡ true
  range-True = ap (in_range facts events) (sym shut.rolls-True) ∙ fold-roll-Formula Bool (in_range_step facts events) True

  range-And : (ps : List Formula) → in_range facts events (shut.And ps) ≡ list_all (λ b. b) (map (in_range facts events) ps)
  range-And ps = ap (in_range facts events) (sym (shut.rolls-And ps)) ∙ fold-roll-Formula Bool (in_range_step facts events) (And ps)

  range-Or : (ps : List Formula) → in_range facts events (shut.Or ps) ≡ list_all (λ b. b) (map (in_range facts events) ps)
  range-Or ps = ap (in_range facts events) (sym (shut.rolls-Or ps)) ∙ fold-roll-Formula Bool (in_range_step facts events) (Or ps)

  range-AtLeast : (k : ℕ) (ps : List Formula) → in_range facts events (shut.AtLeast k ps) ≡ list_all (λ b. b) (map (in_range facts events) ps)
  range-AtLeast k ps = ap (in_range facts events) (sym (shut.rolls-AtLeast k ps)) ∙ fold-roll-Formula Bool (in_range_step facts events) (AtLeast k ps)

  range-Event : (n : ℕ) → in_range facts events (shut.Event n) ≡ in_range_step facts events (Event n)
  range-Event n = ap (in_range facts events) (sym (shut.rolls-Event n)) ∙ fold-roll-Formula Bool (in_range_step facts events) (Event n)

  range-Fact : (n : ℕ) → in_range facts events (shut.Fact n) ≡ in_range_step facts events (Fact n)
  range-Fact n = ap (in_range facts events) (sym (shut.rolls-Fact n)) ∙ fold-roll-Formula Bool (in_range_step facts events) (Fact n)

  abbrev all_in : List Formula → Bool
  all_in fs = list_all (λ b. b) (map (in_range facts events) fs)

  abbrev made : List Kept → List Formula
  made ps = map (thin_formula dropped but) (map (λ p. p.0) ps)

  kept : (ps : List Kept) → all_in (map (λ p. p.0) ps) ≡ true → all_in (made ps) ≡ true
  kept [] e = refl
  kept (p ∷ ps) e = let both = and_parts _ _ e in and_from _ _ (p.1 both.0) (kept ps both.1)

  one_event : (n : ℕ) (b : Bool) → in_range_step facts events (Event n) ≡ true → in_range facts events (cond b (shut.Or []) (shut.Event n)) ≡ true
  one_event n true e = range-Or []
  one_event n false e = range-Event n ∙ e

  one_fact : (n : ℕ) (b : Bool) → in_range_step facts events (Fact n) ≡ true → in_range facts events (cond b (shut.Or []) (shut.Fact n)) ≡ true
  one_fact n true e = range-Or []
  one_fact n false e = range-Fact n ∙ e

  level : (y : Formula-F Kept) → Level (map-Formula Kept Formula (λ p. p.0) y)
  level True e = range-True
  level (Event n) e = one_event n (member dropped n) e
  level (Fact n) e = one_fact n (n == but) e
  level (And ps) e = range-And (made ps) ∙ kept ps e
  level (Or ps) e = range-Or (made ps) ∙ kept ps e
  level (AtLeast k ps) e = range-AtLeast k (made ps) ∙ kept ps e

  risen : (x : Formula-F Formula) → Level x → Stays (roll-Formula x)
  risen x here e = ap (in_range facts events) (fold-roll-Formula Formula (thin_step dropped but) x) ∙ here (sym (fold-roll-Formula Bool (in_range_step facts events) x) ∙ e)

  pub thin-in_range : (f : Formula) → in_range facts events f ≡ true → in_range facts events (thin_formula dropped but f) ≡ true
  thin-in_range = ind-Formula Stays (λ x y is. risen x (subst Level is (level y)))

names-stay : (dropped : List Bool) (but : ℕ) (facts : List FactInfo) → map (λ fact. fact.name) facts ≡ map (λ fact. fact.name) (map (thin_fact dropped but) facts)
names-stay dropped but [] = refl
names-stay dropped but (fact ∷ facts) = ap (λ names. fact.name ∷ names) (names-stay dropped but facts)

pub thin-system : (dropped : List Bool) (but : ℕ) (system : System) → IsSystem system → IsSystem (thin_of dropped but system)
thin-system dropped but system is =
    record {
      ranged = subst (λ count. All (λ (fact : FactInfo). in_range count (length system.events) fact.formula ≡ true) (map (thin_fact dropped but) system.facts)) (sym (length-map system.facts (thin_fact dropped but)))
          (All-map (λ (fact : FactInfo). in_range (length system.facts) (length system.events) fact.formula ≡ true) (thin_fact dropped but) system.facts
          (λ k d h. thin-in_range (length system.facts) (length system.events) dropped but _ (is.ranged k d h)));
      facts_named = subst NamesDiffer (names-stay dropped but system.facts) is.facts_named;
      events_named = is.events_named;
    }

-- ---- what is made of facts and events

abbrev pub system_with : List FactInfo → List EventInfo → System
system_with facts events = record { facts = facts; events = events }

same_parts : (facts others : List FactInfo) (events more : List EventInfo) → facts ≡ others → events ≡ more → system_with facts events ≡ system_with others more
same_parts facts others events more same also = λ i. system_with (same i) (also i)

pub thin-made : (dropped : List Bool) (but : ℕ) (system : System) (facts shown : List FactInfo) (events told : List EventInfo) → facts ≡ map (thin_fact dropped but) shown → shown ≡ system.facts → events ≡ told → told ≡ system.events → system_with facts events ≡ thin_of dropped but system
thin-made dropped but system facts shown events told is same are also = same_parts facts _ events _ (is ∙ ap (map (thin_fact dropped but)) same) (are ∙ also)
