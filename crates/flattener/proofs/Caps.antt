-- Counts of places, of which one over the limit stands for all that are greater.
use Rattle.std.proofs.Common.{◌≡◌, ◌⊎◌, inl, inr, ℕ, ◌+◌, ◌<◌, ◌≤◌, cond, sym, ap, ◌∙◌, arith}
use Rattle.std.proofs.lemmas.Bool.{cases_lt, le-ltb, lt-ltb}
use Rattle.fact_formulas.specs.Flat.{most_places}
use Rattle.flattener.specs.inner.Tables.{capped}

-- a count is itself, or over the limit
pub capped_cases : (n : ℕ) → ((n ≤ most_places) × (capped n ≡ n)) ⊎ ((most_places < n) × (capped n ≡ most_places + 1))
capped_cases n =
    elim (cases_lt most_places n) [
      | inl over ↦ inr (over, ap (λ b. cond b (most_places + 1) n) (lt-ltb most_places n over))
      | inr within ↦ inl (within, ap (λ b. cond b (most_places + 1) n) (le-ltb most_places n within))
    ]

-- a count over the limit
pub capped-over : (n : ℕ) → most_places < n → most_places + 1 ≡ capped n
capped-over n over = sym (ap (λ b. cond b (most_places + 1) n) (lt-ltb most_places n over))

-- a count within it
pub capped-within : (n : ℕ) → n ≤ most_places → n ≡ capped n
capped-within n within = sym (ap (λ b. cond b (most_places + 1) n) (le-ltb most_places n within))

-- a count that was made
pub count_over : (a n : ℕ) → a ≡ n → most_places < a → most_places + 1 ≡ capped n
count_over a n is over = capped-over n (omega (arith, is, over))

pub count_within : (a n : ℕ) → a ≡ n → a ≤ most_places → a ≡ capped n
count_within a n is within = is ∙ capped-within n (omega (arith, is, within))

pub plus_over : (a b m n : ℕ) → a ≡ capped m → b ≡ capped n → most_places < a + b → most_places + 1 ≡ capped (m + n)
plus_over a b m n e f over =
    elim (capped_cases m) [
      | inl small ↦ elim (capped_cases n) [
        | inl few ↦ capped-over (m + n) (omega (arith, e ∙ small.1, f ∙ few.1, over))
        | inr many ↦ capped-over (m + n) (omega (arith, many.0))
      ]
      | inr large ↦ capped-over (m + n) (omega (arith, large.0))
    ]

pub plus_within : (a b m n : ℕ) → a ≡ capped m → b ≡ capped n → a + b ≤ most_places → a + b ≡ capped (m + n)
plus_within a b m n e f within =
    elim (capped_cases m) [
      | inl small ↦ elim (capped_cases n) [
        | inl few ↦ let is : a + b ≡ m + n = omega (arith, e ∙ small.1, f ∙ few.1) in is ∙ capped-within (m + n) (omega (arith, is, within))
        | inr many ↦ absurd (omega (arith, f ∙ many.1, within))
      ]
      | inr large ↦ absurd (omega (arith, e ∙ large.1, within))
    ]

-- one place
pub one-of : (n : ℕ) → n ≡ 1 → 1 ≡ capped n
one-of n is = ap capped (sym is)
