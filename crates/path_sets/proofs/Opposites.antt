-- The dual of a formula is true exactly where the formula is not, under what is outside; and its numbers are those of the formula.
use Rattle.std.proofs.Common.{ℕ, ◌+◌, ◌-◌, ◌≡◌, ◌≤◌, ◌<◌, Bool, true, false, cond, not, eqb, List, [], ◌∷◌, map, length, nat_le, ap, ◌∙◌, sym, subst, refl, arith, le-leb, leb-true, eqb-true}
use Rattle.std.proofs.lemmas.Bool.{false≢true, and_from, and_parts}
use Rattle.std.specs.List.{list_all, list_any}
use lib.ListN.{length-map}
use Rattle.fault_system.specs.Truth.{NumberSet, truth, truth_step, count_true, in_range, in_range_step}
use Rattle.fault_system.specs.declared.formula.Formula.{Formula, map-Formula, roll-Formula, fold-roll-Formula, ind-Formula}
use Rattle.fault_system.specs.declared.formula.Formula.TheOpen.{Formula-F, True, Event, Fact, And, Or, AtLeast}
use Rattle.fault_system.specs.declared.formula.Formula.TheVariants as shut
use Rattle.fault_system.proofs.TruthLaws.{same_answer, truth-And, truth-Or, truth-AtLeast, truth-Event, truth-Fact}
use Rattle.path_sets.specs.Duals.{dual_step, dual_formula}
use Rattle.path_sets.specs.inner.Duals.{outside}

pub not_not : (b : Bool) → not (not b) ≡ b
not_not true = refl
not_not false = refl

any_not : (bs : List Bool) → list_any (λ b. b) (map not bs) ≡ not (list_all (λ b. b) bs)
any_not [] = refl
any_not (true ∷ bs) = any_not bs
any_not (false ∷ bs) = refl

all_not : (bs : List Bool) → list_all (λ b. b) (map not bs) ≡ not (list_any (λ b. b) bs)
all_not [] = refl
all_not (true ∷ bs) = refl
all_not (false ∷ bs) = all_not bs

count_not : (bs : List Bool) → count_true (map not bs) + count_true bs ≡ length bs
count_not [] = refl
count_not (true ∷ bs) = omega (arith, count_not bs)
count_not (false ∷ bs) = omega (arith, count_not bs)

-- at least n + 1 - k of n are false exactly where not at least k are true
least_not : (k n on off : ℕ) → (k ≡ 0 → ⊥) → off + on ≡ n → nat_le (n + 1 - k) off ≡ not (nat_le k on)
least_not k n on off some all = by (nat_le k on) refl where
  below : (a b : ℕ) → b < a → nat_le a b ≡ false
  below a b h = same_answer _ _ (λ e. let l : a ≤ b = leb-true _ _ e in absurd (omega arith)) (λ e. absurd (false≢true e))

  more : (k ≤ on → ⊥) → n + 1 - k ≤ off
  more h = omega arith

  by : (b : Bool) → nat_le k on ≡ b → nat_le (n + 1 - k) off ≡ not b
  by true e = let few : k ≤ on = leb-true _ _ e in below (n + 1 - k) off (omega arith)
  by false e = le-leb _ _ (more (λ h. false≢true (sym e ∙ le-leb _ _ h)))

module _ (es xs : NumberSet) where
  abbrev Opposite : Formula → Type 0
  Opposite f = truth es xs (dual_formula f) ≡ not (truth (outside es) (outside xs) f)

  abbrev Part : Type 0
  Part = (f : Formula) × Opposite f

  abbrev Layer : Formula-F Formula → Type 0
  Layer x = truth es xs (dual_step (map-Formula Formula Formula dual_formula x)) ≡ not (truth_step (outside es) (outside xs) (map-Formula Formula Bool (truth (outside es) (outside xs)) x))

  abbrev duals : List Part → List Formula
  duals ps = map dual_formula (map (λ p. p.0) ps)

  abbrev other : List Part → List Bool
  other ps = map (truth (outside es) (outside xs)) (map (λ p. p.0) ps)

  parts : (ps : List Part) → map (truth es xs) (duals ps) ≡ map not (other ps)
  parts [] = refl
  parts (p ∷ ps) = λ i. p.1 i ∷ parts ps i

  at_least : (k : ℕ) (ps : List Part) (b : Bool) → eqb k 0 ≡ b → truth es xs (cond b (shut.Or []) (shut.AtLeast (length (duals ps) + 1 - k) (duals ps))) ≡ not (nat_le k (count_true (other ps)))
  at_least k ps true e =
      truth-Or es xs [] ∙ ap not (sym (le-leb k (count_true (other ps)) (let none : k ≡ 0 = eqb-true k 0 e in omega arith)))
  at_least k ps false e =
      truth-AtLeast es xs (length (duals ps) + 1 - k) (duals ps)
      ∙ ap (λ bs. nat_le (length (duals ps) + 1 - k) (count_true bs)) (parts ps)
      ∙ least_not k (length (duals ps)) (count_true (other ps)) (count_true (map not (other ps)))
      (λ z. false≢true (sym e ∙ ap (λ n. eqb n 0) z))
      (count_not (other ps) ∙ length-map (map (λ p. p.0) ps) (truth (outside es) (outside xs)) ∙ sym (length-map (map (λ p. p.0) ps) dual_formula))

  layer : (y : Formula-F Part) → Layer (map-Formula Part Formula (λ p. p.0) y)
  layer True = truth-Or es xs []
  layer (Event n) = truth-Event es xs n ∙ sym (not_not (es n))
  layer (Fact n) = truth-Fact es xs n ∙ sym (not_not (xs n))
  layer (And ps) = truth-Or es xs (duals ps) ∙ ap (list_any (λ b. b)) (parts ps) ∙ any_not (other ps)
  layer (Or ps) = truth-And es xs (duals ps) ∙ ap (list_all (λ b. b)) (parts ps) ∙ all_not (other ps)
  layer (AtLeast k ps) = at_least k ps (eqb k 0) refl

  rolled : (x : Formula-F Formula) → Layer x → Opposite (roll-Formula x)
  rolled x here =
      ap (truth es xs) (fold-roll-Formula Formula dual_step x) ∙ here
      ∙ ap not (sym (fold-roll-Formula Bool (truth_step (outside es) (outside xs)) x))

  pub dual-opposite : (f : Formula) → truth es xs (dual_formula f) ≡ not (truth (outside es) (outside xs) f)
  dual-opposite = ind-Formula Opposite (λ x y is. rolled x (subst Layer is (layer y)))

-- ---- numbers in range stay in range

module _ (facts events : ℕ) where
  abbrev Stays : Formula → Type 0
  Stays f = in_range facts events f ≡ true → in_range facts events (dual_formula f) ≡ true

  abbrev Kept : Type 0
  Kept = (f : Formula) × Stays f

  abbrev Level : Formula-F Formula → Type 0
  Level x = in_range_step facts events (map-Formula Formula Bool (in_range facts events) x) ≡ true → in_range facts events (dual_step (map-Formula Formula Formula dual_formula x)) ≡ true

  range-And : (ps : List Formula) → in_range facts events (shut.And ps) ≡ list_all (λ b. b) (map (in_range facts events) ps)
  range-And ps = ap (in_range facts events) (sym (shut.rolls-And ps)) ∙ fold-roll-Formula Bool (in_range_step facts events) (And ps)

  range-Or : (ps : List Formula) → in_range facts events (shut.Or ps) ≡ list_all (λ b. b) (map (in_range facts events) ps)
  range-Or ps = ap (in_range facts events) (sym (shut.rolls-Or ps)) ∙ fold-roll-Formula Bool (in_range_step facts events) (Or ps)

  range-AtLeast : (k : ℕ) (ps : List Formula) → in_range facts events (shut.AtLeast k ps) ≡ list_all (λ b. b) (map (in_range facts events) ps)
  range-AtLeast k ps = ap (in_range facts events) (sym (shut.rolls-AtLeast k ps)) ∙ fold-roll-Formula Bool (in_range_step facts events) (AtLeast k ps)

  range-Event : (n : ℕ) → in_range facts events (shut.Event n) ≡ in_range_step facts events (Event n)
  range-Event n = ap (in_range facts events) (sym (shut.rolls-Event n)) ∙ fold-roll-Formula Bool (in_range_step facts events) (Event n)

  range-Fact : (n : ℕ) → in_range facts events (shut.Fact n) ≡ in_range_step facts events (Fact n)
  range-Fact n = ap (in_range facts events) (sym (shut.rolls-Fact n)) ∙ fold-roll-Formula Bool (in_range_step facts events) (Fact n)

  abbrev all_in : List Formula → Bool
  all_in fs = list_all (λ b. b) (map (in_range facts events) fs)

  abbrev made : List Kept → List Formula
  made ps = map dual_formula (map (λ p. p.0) ps)

  kept : (ps : List Kept) → all_in (map (λ p. p.0) ps) ≡ true → all_in (made ps) ≡ true
  kept [] e = refl
  kept (p ∷ ps) e = let both = and_parts _ _ e in and_from _ _ (p.1 both.0) (kept ps both.1)

  counted : (k : ℕ) (ps : List Kept) (b : Bool) → all_in (made ps) ≡ true → in_range facts events (cond b (shut.Or []) (shut.AtLeast (length (made ps) + 1 - k) (made ps))) ≡ true
  counted k ps true e = range-Or []
  counted k ps false e = range-AtLeast _ (made ps) ∙ e

  level : (y : Formula-F Kept) → Level (map-Formula Kept Formula (λ p. p.0) y)
  level True e = range-Or []
  level (Event n) e = range-Event n ∙ e
  level (Fact n) e = range-Fact n ∙ e
  level (And ps) e = range-Or (made ps) ∙ kept ps e
  level (Or ps) e = range-And (made ps) ∙ kept ps e
  level (AtLeast k ps) e = counted k ps (eqb k 0) (kept ps e)

  risen : (x : Formula-F Formula) → Level x → Stays (roll-Formula x)
  risen x here e = ap (in_range facts events) (fold-roll-Formula Formula dual_step x) ∙ here (sym (fold-roll-Formula Bool (in_range_step facts events) x) ∙ e)

  pub dual-in_range : (f : Formula) → in_range facts events f ≡ true → in_range facts events (dual_formula f) ≡ true
  dual-in_range = ind-Formula Stays (λ x y is. risen x (subst Level is (level y)))
