-- The numbers of a set in rising order.
use Rattle.std.proofs.Common.{ℕ, zero, suc, ◌+◌, ◌≡◌, ◌<◌, ◌≤◌, Bool, cond, List, [], ◌∷◌, ◌++◌, filter, ap, ◌∙◌, sym, refl, arith, add-one}
use Rattle.std.specs.List.{range_with_len}
use Rattle.std.proofs.lemmas.List.Elements.{filter-append}

range-more : (low count next : ℕ) → low + count ≡ next → range_with_len low (suc count) ≡ range_with_len low count ++ next ∷ []
range-more low zero next e = let same : low ≡ next = omega arith in ap (λ (n : ℕ). n ∷ []) same
range-more low (suc count) next e = ap (λ ns. low ∷ ns) (range-more (low + 1) count next (omega arith))

-- one number more
pub numbers-next : (test : ℕ → Bool) (n : ℕ) (old new : List ℕ) (has : Bool) → has ≡ test n → new ≡ old ++ cond has (n ∷ []) [] → old ≡ filter test (range_with_len 0 n) → new ≡ filter test (range_with_len 0 (n + 1))
numbers-next test n old new has is made so_far =
    made ∙ ap (λ ns. ns ++ cond has (n ∷ []) []) so_far ∙ ap (λ b. filter test (range_with_len 0 n) ++ cond b (n ∷ []) []) is
    ∙ sym (filter-append test (range_with_len 0 n) (n ∷ []))
    ∙ ap (filter test) (sym (ap (range_with_len 0) (add-one n) ∙ range-more 0 n n (omega arith)))

-- tests that agree on some numbers have the same of them
pub numbers-same : (p q : ℕ → Bool) (low count : ℕ) → ((n : ℕ) → low ≤ n → n < low + count → p n ≡ q n) → filter p (range_with_len low count) ≡ filter q (range_with_len low count)
numbers-same p q low zero same = refl
numbers-same p q low (suc count) same =
    ap (λ b. cond b (low ∷ filter p (range_with_len (low + 1) count)) (filter p (range_with_len (low + 1) count))) (same low (omega arith) (omega arith))
    ∙ ap (λ ns. cond (q low) (low ∷ ns) ns) (numbers-same p q (low + 1) count (λ n l h. same n (omega arith) (omega arith)))
