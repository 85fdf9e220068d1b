-- Where lists of bytes are cut, and the bytes of decimal numbers.
use Rattle.std.proofs.Common.{ℕ, zero, suc, ◌+◌, ◌≡◌, ◌<◌, ◌≤◌, ◌/◌, ◌%◌, ◌==◌, nat_lt, Bool, true, false, cond, List, [], ◌∷◌, ◌++◌, decimal, inl, inr, ⊎_elim, sym, subst, refl, arith, rules, tests}
use Rattle.std.specs.Fmt.{digits, digits_onto, digit_glyph}
use Rattle.std.proofs.lemmas.Bool.{false≢true}
use Rattle.std.specs.List.{AllByRecursion}
use Rattle.fault_system.proofs.Elements.{In, In-back}

-- two lists that are the same are cut at the first place of a byte alike
pub cut-first : (byte : ℕ) (xs ys r s : List ℕ) → (In byte xs → ⊥) → (In byte ys → ⊥) → xs ++ byte ∷ r ≡ ys ++ byte ∷ s → (xs ≡ ys) × (r ≡ s)
cut-first byte [] [] r s f g e = let same : r ≡ s = cc in (refl, same)
cut-first byte [] (y ∷ ys) r s f g e = let here : y ≡ byte = cc in absurd (g (inl here))
cut-first byte (x ∷ xs) [] r s f g e = let here : x ≡ byte = cc in absurd (f (inl here))
cut-first byte (x ∷ xs) (y ∷ ys) r s f g e =
    let head : x ≡ y = cc in
    let tail : xs ++ byte ∷ r ≡ ys ++ byte ∷ s = cc in
    let rest = cut-first byte xs ys r s (λ i. f (inr i)) (λ i. g (inr i)) tail in
    ((λ i. head i ∷ rest.0 i), rest.1)

-- and at the last place
pub cut-last : (byte : ℕ) (xs ys r s : List ℕ) → (In byte r → ⊥) → (In byte s → ⊥) → xs ++ byte ∷ r ≡ ys ++ byte ∷ s → (xs ≡ ys) × (r ≡ s)
cut-last byte [] [] r s f g e = let same : r ≡ s = cc in (refl, same)
cut-last byte [] (y ∷ ys) r s f g e = let tail : r ≡ ys ++ byte ∷ s = cc in absurd (f (subst (In byte) (sym tail) (In-back byte ys (byte ∷ s) (inl refl))))
cut-last byte (x ∷ xs) [] r s f g e = let tail : xs ++ byte ∷ r ≡ s = cc in absurd (g (subst (In byte) tail (In-back byte xs (byte ∷ r) (inl refl))))
cut-last byte (x ∷ xs) (y ∷ ys) r s f g e =
    let head : x ≡ y = cc in
    let tail : xs ++ byte ∷ r ≡ ys ++ byte ∷ s = cc in
    let rest = cut-last byte xs ys r s f g tail in
    ((λ i. head i ∷ rest.0 i), rest.1)

-- a byte of a decimal number
abbrev pub IsDigit : ℕ → Type 0
IsDigit b = (48 ≤ b) × (b ≤ 57)

glyph : (d : ℕ) → d < 10 → IsDigit (digit_glyph false d)
glyph d h = by (nat_lt d 10) below
  where
    below : nat_lt d 10 ≡ true
    below = search (rules, tests)

    by : (b : Bool) → b ≡ true → IsDigit (cond b (48 + d) (87 + d))
    by true e = (omega arith, omega arith)
    by false e = absurd (false≢true e)

onto-digits : (k n : ℕ) (acc : List ℕ) → AllByRecursion IsDigit acc → AllByRecursion IsDigit (digits_onto k 10 false n acc)
onto-digits zero n acc all = all
onto-digits (suc k) n acc all = by (n / 10 == 0) (onto-digits k (n / 10) (digit_glyph false (n % 10) ∷ acc) (glyph (n % 10) (omega arith), all))
  where
    by : (b : Bool) → AllByRecursion IsDigit (digits_onto k 10 false (n / 10) (digit_glyph false (n % 10) ∷ acc)) → AllByRecursion IsDigit (cond b (digit_glyph false (n % 10) ∷ acc) (digits_onto k 10 false (n / 10) (digit_glyph false (n % 10) ∷ acc)))
    by true rest = (glyph (n % 10) (omega arith), all)
    by false rest = rest

-- the bytes of a decimal number are digits
pub decimal-digits : (n : ℕ) → AllByRecursion IsDigit (decimal n)
unfolding digits
decimal-digits n = onto-digits 64 n [] tt

pub digits-lack : (byte : ℕ) (xs : List ℕ) → (IsDigit byte → ⊥) → AllByRecursion IsDigit xs → In byte xs → ⊥
digits-lack byte [] none all i = i
digits-lack byte (x ∷ xs) none all i = ⊎_elim (λ (e : x ≡ byte). none (omega (arith, all.0.0), omega (arith, all.0.1))) (λ later. digits-lack byte xs none all.1 later) i

-- a byte that is no digit is none of a decimal number's
pub decimal-lacks : (byte n : ℕ) → (IsDigit byte → ⊥) → In byte (decimal n) → ⊥
decimal-lacks byte n none = digits-lack byte (decimal n) none (decimal-digits n)

-- digits end where another byte comes
pub cut-digits : (xs ys : List ℕ) (a b : ℕ) (r s : List ℕ) → AllByRecursion IsDigit xs → AllByRecursion IsDigit ys → (IsDigit a → ⊥) → (IsDigit b → ⊥) → xs ++ a ∷ r ≡ ys ++ b ∷ s → (xs ≡ ys) × (a ∷ r ≡ b ∷ s)
cut-digits [] [] a b r s p q f g e = (refl, e)
cut-digits [] (y ∷ ys) a b r s p q f g e = let here : a ≡ y = cc in absurd (f (omega (arith, q.0.0), omega (arith, q.0.1)))
cut-digits (x ∷ xs) [] a b r s p q f g e = let here : x ≡ b = cc in absurd (g (omega (arith, p.0.0), omega (arith, p.0.1)))
cut-digits (x ∷ xs) (y ∷ ys) a b r s p q f g e =
    let head : x ≡ y = cc in
    let tail : xs ++ a ∷ r ≡ ys ++ b ∷ s = cc in
    let rest = cut-digits xs ys a b r s p.1 q.1 f g tail in
    ((λ i. head i ∷ rest.0 i), rest.1)
