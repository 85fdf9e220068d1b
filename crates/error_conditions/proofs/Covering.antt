-- A condition is covered by its meaning: what counts say of the parts, and the induction.
use Rattle.std.proofs.Common.{ℕ, suc, ◌+◌, ◌-◌, ◌≡◌, ◌≤◌, ◌<◌, Bool, true, false, List, [], ◌∷◌, map, length, nat_le, le-leb, leb-true, sym, refl, ap, ◌∙◌, subst, arith, rules, tests}
use Rattle.std.proofs.lemmas.Bool.{false≢true}
use Rattle.std.specs.List.{list_all, list_any}
use lib.ListN.{length-map}
use Rattle.aadl_syntax.specs.declared.error_model.Atom.{Atom}
use Rattle.aadl_syntax.specs.declared.error_model.Condition.{Condition, map-Condition, roll-Condition, fold-roll-Condition, ind-Condition}
use Rattle.aadl_syntax.specs.declared.error_model.Condition.TheOpen.{Condition-F}
use Rattle.aadl_syntax.specs.declared.error_model.Condition.TheOpen as condition
use Rattle.error_conditions.specs.Conditions.{Pair, fails_of, holds_of, pair_of, pair_step}
use Rattle.error_conditions.specs.declared.cause.Cause.{Cause, fold-roll-Cause}
use Rattle.error_conditions.specs.declared.cause.Cause.TheOpen as open_cause
use Rattle.error_conditions.specs.declared.cause.Cause.TheVariants.{All, Any, AtLeast, rolls-All, rolls-Any, rolls-AtLeast}
use Rattle.error_conditions.specs.inner.Strict.{Covers, World, count_true, strict, strict_step, truth, truth_step}

-- ---- the truth of a cause

module _ (world : World) where
  pub truth-All : (parts : List Cause) → truth world (All parts) ≡ list_all (λ b. b) (map (truth world) parts)
  truth-All parts = ap (truth world) (sym (rolls-All parts)) ∙ fold-roll-Cause Bool (truth_step world) (open_cause.All parts)

  pub truth-Any : (parts : List Cause) → truth world (Any parts) ≡ list_any (λ b. b) (map (truth world) parts)
  truth-Any parts = ap (truth world) (sym (rolls-Any parts)) ∙ fold-roll-Cause Bool (truth_step world) (open_cause.Any parts)

  pub truth-AtLeast : (least : ℕ) (parts : List Cause) → truth world (AtLeast least parts) ≡ nat_le least (count_true (map (truth world) parts))
  truth-AtLeast least parts = ap (truth world) (sym (rolls-AtLeast least parts)) ∙ fold-roll-Cause Bool (truth_step world) (open_cause.AtLeast least parts)

-- ---- tests of numbers

pub le-false : (a b : ℕ) → nat_le a b ≡ false → b < a
le-false a b h = search (rules, tests)

-- ---- one part more

pub first-of-all : (b : Bool) (bs : List Bool) → list_all (λ x. x) (b ∷ bs) ≡ true → b ≡ true
first-of-all true bs e = refl
first-of-all false bs e = e

pub rest-of-all : (b : Bool) (bs : List Bool) → list_all (λ x. x) (b ∷ bs) ≡ true → list_all (λ x. x) bs ≡ true
rest-of-all true bs e = e
rest-of-all false bs e = absurd (false≢true e)

all-held-more : (b h : Bool) (bs hs : List Bool) → (b ≡ true → h ≡ true) → (list_all (λ x. x) bs ≡ true → list_all (λ x. x) hs ≡ true) → list_all (λ x. x) (b ∷ bs) ≡ true → list_all (λ x. x) (h ∷ hs) ≡ true
all-held-more true true bs hs one rest e = rest e
all-held-more true false bs hs one rest e = one refl
all-held-more false h bs hs one rest e = absurd (false≢true e)

any-held-more : (b h : Bool) (bs hs : List Bool) → (b ≡ true → h ≡ true) → (list_any (λ x. x) bs ≡ true → list_any (λ x. x) hs ≡ true) → list_any (λ x. x) (b ∷ bs) ≡ true → list_any (λ x. x) (h ∷ hs) ≡ true
any-held-more b true bs hs one rest e = refl
any-held-more true false bs hs one rest e = absurd (false≢true (one refl))
any-held-more false false bs hs one rest e = rest e

any-failed-more : (b f : Bool) (bs fs : List Bool) → (b ≡ false → f ≡ true) → (list_all (λ x. x) bs ≡ false → list_any (λ x. x) fs ≡ true) → list_all (λ x. x) (b ∷ bs) ≡ false → list_any (λ x. x) (f ∷ fs) ≡ true
any-failed-more b true bs fs one rest e = refl
any-failed-more true false bs fs one rest e = rest e
any-failed-more false false bs fs one rest e = absurd (false≢true (one refl))

all-failed-more : (b f : Bool) (bs fs : List Bool) → (b ≡ false → f ≡ true) → (list_any (λ x. x) bs ≡ false → list_all (λ x. x) fs ≡ true) → list_any (λ x. x) (b ∷ bs) ≡ false → list_all (λ x. x) (f ∷ fs) ≡ true
all-failed-more true f bs fs one rest e = absurd (false≢true (sym e))
all-failed-more false true bs fs one rest e = rest e
all-failed-more false false bs fs one rest e = one refl

-- ---- counts

more-held : (b h : Bool) (bs hs : List Bool) → (b ≡ true → h ≡ true) → count_true bs ≤ count_true hs → count_true (b ∷ bs) ≤ count_true (h ∷ hs)
more-held true true bs hs f l = omega arith
more-held true false bs hs f l = absurd (false≢true (f refl))
more-held false true bs hs f l = omega arith
more-held false false bs hs f l = l

more-failed : (n : ℕ) (b f : Bool) (bs fs : List Bool) → (b ≡ false → f ≡ true) → n ≤ count_true bs + count_true fs → suc n ≤ count_true (b ∷ bs) + count_true (f ∷ fs)
more-failed n true true bs fs g l = omega arith
more-failed n true false bs fs g l = omega arith
more-failed n false true bs fs g l = omega arith
more-failed n false false bs fs g l = absurd (false≢true (g refl))

-- at least so many of what are no fewer
no-fewer : (least a b : ℕ) → nat_le least a ≡ true → a ≤ b → nat_le least b ≡ true
no-fewer least a b e l = let h : least ≤ a = leb-true _ _ e in le-leb _ _ (omega arith)

-- Where fewer than k of n are true, at least n + 1 - k may fail.
enough-fail : (least m n a f : ℕ) → m ≡ n → n ≤ a + f → nat_le least a ≡ false → nat_le (m + 1 - least) f ≡ true
enough-fail least m n a f same l e = let h : a < least = le-false _ _ e in le-leb _ _ (omega arith)

-- Where at most k of n are true, at least n - k may fail.
rest-fail : (most m n a f : ℕ) → m ≡ n → n ≤ a + f → nat_le a most ≡ true → nat_le (m - most) f ≡ true
rest-fail most m n a f same l e = let h : a ≤ most = leb-true _ _ e in le-leb _ _ (omega arith)

-- Where more than k are true, at least k + 1 may hold.
one-more : (most a b : ℕ) → a ≤ b → nat_le a most ≡ false → nat_le (most + 1) b ≡ true
one-more most a b l e = let h : most < a = le-false _ _ e in le-leb _ _ (omega arith)

module _ (meaning : Atom → Pair) (named : Atom → Bool) (world : World) (covered : (atom : Atom) → Covers world (named atom) (meaning atom)) where
  abbrev Covered : Condition → Type 0
  Covered c = Covers world (strict named c) (pair_of meaning c)

  abbrev Part : Type 0
  Part = (c : Condition) × Covered c

  -- the strict truth of the parts, where they may hold, and where they may fail
  abbrev so : List Part → List Bool
  so ps = map (strict named) (map (λ p. p.0) ps)

  abbrev held : List Part → List Bool
  held ps = map (truth world) (holds_of (map (pair_of meaning) (map (λ p. p.0) ps)))

  abbrev failed : List Part → List Bool
  failed ps = map (truth world) (fails_of (map (pair_of meaning) (map (λ p. p.0) ps)))

  all-held : (ps : List Part) → list_all (λ b. b) (so ps) ≡ true → list_all (λ b. b) (held ps) ≡ true
  all-held [] e = refl
  all-held (p ∷ ps) e = all-held-more (strict named p.0) _ (so ps) (held ps) p.1.holding (all-held ps) e

  any-held : (ps : List Part) → list_any (λ b. b) (so ps) ≡ true → list_any (λ b. b) (held ps) ≡ true
  any-held [] e = e
  any-held (p ∷ ps) e = any-held-more (strict named p.0) _ (so ps) (held ps) p.1.holding (any-held ps) e

  any-failed : (ps : List Part) → list_all (λ b. b) (so ps) ≡ false → list_any (λ b. b) (failed ps) ≡ true
  any-failed [] e = sym e
  any-failed (p ∷ ps) e = any-failed-more (strict named p.0) _ (so ps) (failed ps) p.1.failing (any-failed ps) e

  all-failed : (ps : List Part) → list_any (λ b. b) (so ps) ≡ false → list_all (λ b. b) (failed ps) ≡ true
  all-failed [] e = refl
  all-failed (p ∷ ps) e = all-failed-more (strict named p.0) _ (so ps) (failed ps) p.1.failing (all-failed ps) e

  -- as many may hold as are true
  count-held : (ps : List Part) → count_true (so ps) ≤ count_true (held ps)
  count-held [] = omega arith
  count-held (p ∷ ps) = more-held (strict named p.0) _ (so ps) (held ps) p.1.holding (count-held ps)

  -- each part is true, or may fail
  counting : (ps : List Part) → length ps ≤ count_true (so ps) + count_true (failed ps)
  counting [] = omega arith
  counting (p ∷ ps) = more-failed (length ps) (strict named p.0) _ (so ps) (failed ps) p.1.failing (counting ps)

  length-parts : (ps : List Part) → length (map (pair_of meaning) (map (λ p. p.0) ps)) ≡ length ps
  length-parts ps = length-map (map (λ p. p.0) ps) (pair_of meaning) ∙ length-map ps (λ p. p.0)

  -- ---- one condition

  abbrev Layer : Condition-F Condition → Type 0
  Layer x = Covers world (strict_step named (map-Condition Condition Bool (strict named) x)) (pair_step meaning (map-Condition Condition Pair (pair_of meaning) x))

  layer : (y : Condition-F Part) → Layer (map-Condition Part Condition (λ p. p.0) y)
  layer (condition.Atom atom) = covered atom
  layer (condition.All ps) = record {
    holding = λ e. truth-All world _ ∙ all-held ps e;
    failing = λ e. truth-Any world _ ∙ any-failed ps e;
  }
  layer (condition.Any ps) = record {
    holding = λ e. truth-Any world _ ∙ any-held ps e;
    failing = λ e. truth-All world _ ∙ all-failed ps e;
  }
  layer (condition.AtLeast least ps) = record {
    holding = λ e. truth-AtLeast world _ _ ∙ no-fewer least _ _ e (count-held ps);
    failing = λ e. truth-AtLeast world _ _ ∙ enough-fail least _ _ _ _ (length-parts ps) (counting ps) e;
  }
  layer (condition.AtMost most ps spot) = record {
    holding = λ e. truth-AtLeast world _ _ ∙ rest-fail most _ _ _ _ (length-parts ps) (counting ps) e;
    failing = λ e. truth-AtLeast world _ _ ∙ one-more most _ _ (count-held ps) e;
  }

  rolled : (y : Condition-F Condition) → Layer y → Covered (roll-Condition y)
  rolled y l =
      subst (λ b. Covers world b (pair_of meaning (roll-Condition y))) (sym (fold-roll-Condition Bool (strict_step named) y))
      (subst (λ p. Covers world (strict_step named (map-Condition Condition Bool (strict named) y)) p) (sym (fold-roll-Condition Pair (pair_step meaning) y)) l)

  -- a condition is covered by its meaning
  pub covers-named : (c : Condition) → Covered c
  covers-named = ind-Condition Covered (λ x y is. rolled x (subst Layer is (layer y)))
