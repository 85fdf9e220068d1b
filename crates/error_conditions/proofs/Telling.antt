-- Where the meanings of the named parts tell exactly whether these are true, the meaning of a condition does.
use Rattle.std.proofs.Common.{ℕ, ◌+◌, ◌-◌, ◌≡◌, ◌≤◌, ◌<◌, Bool, true, false, not, List, [], ◌∷◌, map, length, nat_le, le-leb, leb-true, sym, refl, ap, ◌∙◌, subst, arith, rules, tests}
use Rattle.std.specs.List.{list_all, list_any}
use lib.ListN.{length-map}
use Rattle.aadl_syntax.specs.declared.error_model.Atom.{Atom}
use Rattle.aadl_syntax.specs.declared.error_model.Condition.{Condition, map-Condition, roll-Condition, fold-roll-Condition, ind-Condition}
use Rattle.aadl_syntax.specs.declared.error_model.Condition.TheOpen.{Condition-F}
use Rattle.aadl_syntax.specs.declared.error_model.Condition.TheOpen as condition
use Rattle.error_conditions.specs.Conditions.{Pair, fails_of, holds_of, pair_of, pair_step}
use Rattle.error_conditions.specs.inner.Strict.{Tells, World, count_true, strict, strict_step, truth}
use Rattle.error_conditions.proofs.Covering.{le-false, truth-All, truth-Any, truth-AtLeast}

any-not : (bs : List Bool) → list_any (λ b. b) (map not bs) ≡ not (list_all (λ b. b) bs)
any-not [] = refl
any-not (true ∷ bs) = any-not bs
any-not (false ∷ bs) = refl

all-not : (bs : List Bool) → list_all (λ b. b) (map not bs) ≡ not (list_any (λ b. b) bs)
all-not [] = refl
all-not (true ∷ bs) = refl
all-not (false ∷ bs) = all-not bs

count-not : (bs : List Bool) → count_true bs + count_true (map not bs) ≡ length bs
count-not [] = refl
count-not (true ∷ bs) = let h : count_true bs + count_true (map not bs) ≡ length bs = count-not bs in omega arith
count-not (false ∷ bs) = let h : count_true bs + count_true (map not bs) ≡ length bs = count-not bs in omega arith

-- two answers that are true in the same cases
same-answer : (a b : Bool) → (a ≡ true → b ≡ true) → (b ≡ true → a ≡ true) → a ≡ b
same-answer true b f g = sym (f refl)
same-answer false true f g = g refl
same-answer false false f g = refl

not-so : (a : Bool) → a ≡ false → not a ≡ true
not-so true e = sym e
not-so false e = refl

so-not : (a : Bool) → not a ≡ true → a ≡ false
so-not true e = sym e
so-not false e = refl

above : (a b : ℕ) → b < a → nat_le a b ≡ false
above a b h = search (rules, tests)

-- not at least k of n are true exactly where at least n + 1 - k are not
not-at-least : (k m n a f : ℕ) → m ≡ n → a + f ≡ n → nat_le (m + 1 - k) f ≡ not (nat_le k a)
not-at-least k m n a f same e = same-answer _ _
    (λ h. let l : m + 1 - k ≤ f = leb-true _ _ h in not-so _ (above k a (omega arith)))
    (λ h. let l : a < k = le-false _ _ (so-not _ h) in le-leb _ _ (omega arith))

-- at most k of n are true exactly where at least n - k are not
at-most : (k m n a f : ℕ) → m ≡ n → a + f ≡ n → nat_le (m - k) f ≡ nat_le a k
at-most k m n a f same e = same-answer _ _
    (λ h. let l : m - k ≤ f = leb-true _ _ h in le-leb _ _ (omega arith))
    (λ h. let l : a ≤ k = leb-true _ _ h in le-leb _ _ (omega arith))

-- more than k are true exactly where not at most k are
more-than : (k a : ℕ) → nat_le (k + 1) a ≡ not (nat_le a k)
more-than k a = same-answer _ _
    (λ h. let l : k + 1 ≤ a = leb-true _ _ h in not-so _ (above a k (omega arith)))
    (λ h. let l : k < a = le-false _ _ (so-not _ h) in le-leb _ _ (omega arith))

module _ (meaning : Atom → Pair) (named : Atom → Bool) (world : World) (told : (atom : Atom) → Tells world (named atom) (meaning atom)) where
  abbrev Told : Condition → Type 0
  Told c = Tells world (strict named c) (pair_of meaning c)

  abbrev Part : Type 0
  Part = (c : Condition) × Told c

  -- the strict truth of the parts, where they may hold, and where they may fail
  abbrev so : List Part → List Bool
  so ps = map (strict named) (map (λ p. p.0) ps)

  abbrev held : List Part → List Bool
  held ps = map (truth world) (holds_of (map (pair_of meaning) (map (λ p. p.0) ps)))

  abbrev failed : List Part → List Bool
  failed ps = map (truth world) (fails_of (map (pair_of meaning) (map (λ p. p.0) ps)))

  held-so : (ps : List Part) → held ps ≡ so ps
  held-so [] = refl
  held-so (p ∷ ps) = λ i. p.1.holding i ∷ held-so ps i

  failed-not : (ps : List Part) → failed ps ≡ map not (so ps)
  failed-not [] = refl
  failed-not (p ∷ ps) = λ i. p.1.failing i ∷ failed-not ps i

  counts : (ps : List Part) → count_true (so ps) + count_true (failed ps) ≡ length ps
  counts ps = ap (λ fs. count_true (so ps) + count_true fs) (failed-not ps) ∙ count-not (so ps) ∙ length-map (map (λ p. p.0) ps) (strict named) ∙ length-map ps (λ p. p.0)

  length-parts : (ps : List Part) → length (map (pair_of meaning) (map (λ p. p.0) ps)) ≡ length ps
  length-parts ps = length-map (map (λ p. p.0) ps) (pair_of meaning) ∙ length-map ps (λ p. p.0)

  abbrev Layer : Condition-F Condition → Type 0
  Layer x = Tells world (strict_step named (map-Condition Condition Bool (strict named) x)) (pair_step meaning (map-Condition Condition Pair (pair_of meaning) x))

  layer : (y : Condition-F Part) → Layer (map-Condition Part Condition (λ p. p.0) y)
  layer (condition.Atom atom) = told atom
  layer (condition.All ps) = record {
    holding = truth-All world _ ∙ ap (list_all (λ b. b)) (held-so ps);
    failing = truth-Any world _ ∙ ap (list_any (λ b. b)) (failed-not ps) ∙ any-not (so ps);
  }
  layer (condition.Any ps) = record {
    holding = truth-Any world _ ∙ ap (list_any (λ b. b)) (held-so ps);
    failing = truth-All world _ ∙ ap (list_all (λ b. b)) (failed-not ps) ∙ all-not (so ps);
  }
  layer (condition.AtLeast least ps) = record {
    holding = truth-AtLeast world _ _ ∙ ap (λ bs. nat_le least (count_true bs)) (held-so ps);
    failing = truth-AtLeast world _ _ ∙ not-at-least least _ _ _ _ (length-parts ps) (counts ps);
  }
  layer (condition.AtMost most ps spot) = record {
    holding = truth-AtLeast world _ _ ∙ at-most most _ _ _ _ (length-parts ps) (counts ps);
    failing = truth-AtLeast world _ _ ∙ ap (λ bs. nat_le (most + 1) (count_true bs)) (held-so ps) ∙ more-than most _;
  }

  rolled : (y : Condition-F Condition) → Layer y → Told (roll-Condition y)
  rolled y l =
      subst (λ b. Tells world b (pair_of meaning (roll-Condition y))) (sym (fold-roll-Condition Bool (strict_step named) y))
      (subst (λ p. Tells world (strict_step named (map-Condition Condition Bool (strict named) y)) p) (sym (fold-roll-Condition Pair (pair_step meaning) y)) l)

  pub tells-named : (c : Condition) → Told c
  tells-named = ind-Condition Told (λ x y is. rolled x (subst Layer is (layer y)))
