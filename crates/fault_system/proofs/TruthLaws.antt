-- The equations of `truth` at each variant, and what a count of the true places says.
use Rattle.std.proofs.Common.{le-leb, leb-true, ◌<◌, ℕ, suc, ◌+◌, ◌≡◌, ◌≤◌, Bool, true, false, List, [], ◌∷◌, map, length, nat_le, leb, ap, ◌∙◌, sym, refl, arith, rules, tests}
use Rattle.std.specs.List.{list_all, list_any}
use lib.ListN.{length-map}
use Rattle.fault_system.specs.Truth.{NumberSet, count_true, truth, truth_step}
use Rattle.fault_system.specs.declared.formula.Formula.{Formula, fold-roll-Formula}
use Rattle.fault_system.specs.declared.formula.Formula.TheVariants.{True, Event, Fact, And, Or, AtLeast, rolls-True, rolls-Event, rolls-Fact, rolls-And, rolls-Or, rolls-AtLeast}
use Rattle.fault_system.specs.declared.formula.Formula.TheOpen as open_one

pub count_true-le : (bs : List Bool) → count_true bs ≤ length bs
count_true-le [] = omega arith
count_true-le (true ∷ bs) = omega (arith, count_true-le bs)
count_true-le (false ∷ bs) = omega (arith, count_true-le bs)

-- two answers that are true in the same cases
pub same_answer : (a b : Bool) → (a ≡ true → b ≡ true) → (b ≡ true → a ≡ true) → a ≡ b
same_answer true b f g = sym (f refl)
same_answer false true f g = g refl
same_answer false false f g = refl

leb-suc : (a b : ℕ) → leb (suc a) (b + 1) ≡ leb a b
leb-suc a b = same_answer _ _ (λ h. let e : suc a ≤ b + 1 = leb-true _ _ h in le-leb _ _ (omega arith)) (λ h. let e : a ≤ b = leb-true _ _ h in le-leb _ _ (omega arith))

leb-false_above : (a b : ℕ) → b < a → leb a b ≡ false
leb-false_above a b h = search (rules, tests)

-- all are true if as many as there are, or more
pub nat_le-all : (bs : List Bool) → nat_le (length bs) (count_true bs) ≡ list_all (λ b. b) bs
nat_le-all [] = refl
nat_le-all (true ∷ bs) = leb-suc (length bs) (count_true bs) ∙ nat_le-all bs
nat_le-all (false ∷ bs) = leb-false_above _ _ (omega (arith, count_true-le bs))

-- one is true if at least one is
pub nat_le-any : (bs : List Bool) → nat_le 1 (count_true bs) ≡ list_any (λ b. b) bs
nat_le-any [] = refl
nat_le-any (true ∷ bs) = le-leb _ _ (omega arith)
nat_le-any (false ∷ bs) = nat_le-any bs

module _ (events facts : NumberSet) where
  pub truth-True : truth events facts True ≡ true
  truth-True = ap (truth events facts) (sym rolls-True) ∙ fold-roll-Formula Bool (truth_step events facts) open_one.True

  pub truth-And : (parts : List Formula) → truth events facts (And parts) ≡ list_all (λ b. b) (map (truth events facts) parts)
  truth-And parts = ap (truth events facts) (sym (rolls-And parts)) ∙ fold-roll-Formula Bool (truth_step events facts) (open_one.And parts)

  pub truth-Or : (parts : List Formula) → truth events facts (Or parts) ≡ list_any (λ b. b) (map (truth events facts) parts)
  truth-Or parts = ap (truth events facts) (sym (rolls-Or parts)) ∙ fold-roll-Formula Bool (truth_step events facts) (open_one.Or parts)

  pub truth-AtLeast : (k : ℕ) (parts : List Formula) → truth events facts (AtLeast k parts) ≡ nat_le k (count_true (map (truth events facts) parts))
  truth-AtLeast k parts = ap (truth events facts) (sym (rolls-AtLeast k parts)) ∙ fold-roll-Formula Bool (truth_step events facts) (open_one.AtLeast k parts)

  pub truth-Event : (n : ℕ) → truth events facts (Event n) ≡ events n
  truth-Event n = ap (truth events facts) (sym (rolls-Event n)) ∙ fold-roll-Formula Bool (truth_step events facts) (open_one.Event n)

  pub truth-Fact : (n : ℕ) → truth events facts (Fact n) ≡ facts n
  truth-Fact n = ap (truth events facts) (sym (rolls-Fact n)) ∙ fold-roll-Formula Bool (truth_step events facts) (open_one.Fact n)

  -- what the code answers at And and at Or, over the same parts as read there
  pub truth-all : (r : Bool) (f : Formula) (parts xs ys : List Formula) → f ≡ And parts → xs ≡ parts → ys ≡ parts → r ≡ nat_le (length xs) (count_true (map (truth events facts) ys)) → r ≡ truth events facts f
  truth-all r f parts xs ys is_and is_xs is_ys e =
      let all : nat_le (length (map (truth events facts) parts)) (count_true (map (truth events facts) parts)) ≡ list_all (λ b. b) (map (truth events facts) parts) = nat_le-all _ in
      rw (is_and, truth-And) (e ∙ rw (is_xs, is_ys) (rw (length-map parts (truth events facts)) at all))

  pub truth-any : (r : Bool) (f : Formula) (parts xs : List Formula) → f ≡ Or parts → xs ≡ parts → r ≡ nat_le 1 (count_true (map (truth events facts) xs)) → r ≡ truth events facts f
  truth-any r f parts xs is_or is_xs e = rw (is_or, truth-Or) (e ∙ rw is_xs (nat_le-any (map (truth events facts) parts)))
