-- The first digits of a number, compared in its place.
use Rattle.std.proofs.Common.{ℕ, zero, suc, ◌+◌, ◌*◌, ◌^◌, ◌≤◌, ◌<◌, ◌≡◌, ◌∙◌, Bool, true, false, Option, Some, None, inl, inr, refl, sym, ap, subst, arith}
use Rattle.std.specs.Prelude.{◌↔◌, ◌-◌, ◌⊎◌, IsTrue, not}
use Rattle.std.proofs.lemmas.Bool.{false≢true, ltb_from_iff}
use Rattle.std.proofs.Math.Nat.{mul-le-mul_right, mul-lt-mul_of_pos_right}
use Rattle.decimals.specs.declared.figures.Figures.{Figures}
use Rattle.decimals.specs.declared.numeral.Numeral.{Numeral}
use Rattle.decimals.specs.declared.decimal.Decimal.{Decimal}
use Rattle.decimals.specs.Decimals.{decimal_parts, number_parts}
use Rattle.decimals.specs.Numerals.{Number}
use Rattle.decimals.specs.inner.Figures.{AreFigures, IsRead, IsReadAs}
use Rattle.compared_numbers.specs.Compared.{is_below_one}
use Rattle.compared_numbers.proofs.Tens.{both_zeros, split, ten_pos}

-- ---- what was read

pub not_read : (found : Option Number) → IsReadAs found None → found ≡ None
not_read None is = refl
not_read (Some number) is = absurd is

pub was_read : (found : Option Number) (x : Numeral) → IsReadAs found (Some x) → (number : Number) × (found ≡ Some number) × IsRead number x
was_read None x is = absurd is
was_read (Some number) x is = (number, refl, is)

-- ---- first digits

-- the digits that are dropped do not matter beside digits that are as few
module _ (number : ℕ) (x : Figures) (are : AreFigures number x) (u a b : ℕ) (short : u ≤ 1000000000000000000) where
  abbrev m : ℕ
  m = x.mantissa

  abbrev d : ℕ
  d = x.dropped

  from_number : number * 10 ^ b < u * 10 ^ a → m * 10 ^ (d + b) < u * 10 ^ a
  from_number h =
      let p : m * 10 ^ d * 10 ^ b ≤ number * 10 ^ b = mul-le-mul_right (10 ^ b) are.least in
      let s = split m d b in
      omega arith

  -- one more of the last digit that is kept is above the number
  above : number * 10 ^ b < (m + 1) * 10 ^ (d + b)
  above =
      let p : number * 10 ^ b < (m + 1) * 10 ^ d * 10 ^ b = mul-lt-mul_of_pos_right are.most (ten_pos b) in
      let s = split (m + 1) d b in
      omega arith

  with_zeros : (k : ℕ) → a ≡ k + (d + b) → m * 10 ^ (d + b) < u * 10 ^ a → number * 10 ^ b < u * 10 ^ a
  with_zeros k same h =
      let e : u * 10 ^ a ≡ u * 10 ^ k * 10 ^ (d + b) = ap (λ t. u * 10 ^ t) same ∙ split u k (d + b) in
      let less : m < u * 10 ^ k = (both_zeros m (u * 10 ^ k) (d + b)).0 (subst (λ (t : ℕ). m * 10 ^ (d + b) < t) e h) in
      let p : (m + 1) * 10 ^ (d + b) ≤ u * 10 ^ k * 10 ^ (d + b) = mul-le-mul_right (10 ^ (d + b)) (omega arith) in
      let q = above in
      omega arith

  with_digits : (k : ℕ) → d + b ≡ k + 1 + a → 100000000000000000 ≤ m → m * 10 ^ (d + b) < u * 10 ^ a → ⊥
  with_digits k same long h =
      let e : m * 10 ^ (d + b) ≡ m * 10 ^ (k + 1) * 10 ^ a = ap (λ t. m * 10 ^ t) same ∙ split m (k + 1) a in
      let less : m * 10 ^ (k + 1) < u = (both_zeros (m * 10 ^ (k + 1)) u a).0 (subst (λ (t : ℕ). t < u * 10 ^ a) e h) in
      let s : m * 10 ^ (k + 1) ≡ m * 10 ^ k * 10 = split m k 1 in
      let t = ten_pos k in
      let p : m * 1 ≤ m * 10 ^ k = times m 1 (10 ^ k) t in
      omega arith
    where
      times : (m i j : ℕ) → i ≤ j → m * i ≤ m * j
      times m i j h = let p : i * m ≤ j * m = mul-le-mul_right m h in omega arith

  few : d ≡ 0 → m * 10 ^ (d + b) < u * 10 ^ a → number * 10 ^ b < u * 10 ^ a
  few none h =
      let one : 10 ^ d ≡ 1 = ap (λ t. 10 ^ t) none in
      let least : m * 1 ≤ number = subst (λ (t : ℕ). m * t ≤ number) one are.least in
      let most : number < (m + 1) * 1 = subst (λ (t : ℕ). number < (m + 1) * t) one are.most in
      let same : number ≡ m = omega arith in
      let clear : 0 + b ≡ b = omega arith in
      let e : m * 10 ^ (d + b) ≡ m * 10 ^ b = ap (λ (t : ℕ). m * 10 ^ (t + b)) none ∙ ap (λ (t : ℕ). m * 10 ^ t) clear in
      subst (λ (t : ℕ). t * 10 ^ b < u * 10 ^ a) (sym same) (subst (λ (t : ℕ). t < u * 10 ^ a) e h)

  long : 100000000000000000 ≤ m → m * 10 ^ (d + b) < u * 10 ^ a → number * 10 ^ b < u * 10 ^ a
  long many h = by (d + b - a) (a - (d + b)) refl refl
    where
      by : (over under : ℕ) → over ≡ d + b - a → under ≡ a - (d + b) → number * 10 ^ b < u * 10 ^ a
      by zero under none is = with_zeros under (omega arith) h
      by (suc k) under is none = absurd (with_digits k (omega arith) many h)

  pub figures_less : (m * 10 ^ (d + b) < u * 10 ^ a) ↔ (number * 10 ^ b < u * 10 ^ a)
  figures_less = ((λ h. by are.full h), from_number)
    where
      by : (d ≡ 0) ⊎ (100000000000000000 ≤ m) → m * 10 ^ (d + b) < u * 10 ^ a → number * 10 ^ b < u * 10 ^ a
      by (inl none) h = few none h
      by (inr many) h = long many h

-- ---- answers

-- what is not less is at most
pub not_less : (answer : Bool) (x y : ℕ) → (IsTrue answer ↔ (y < x)) → (IsTrue (not answer) ↔ (x ≤ y))
not_less true x y is = ((λ h. absurd (false≢true h)), λ h. let l = is.0 refl in absurd (omega arith))
not_less false x y is = ((λ h. by (y - x) (x - y) refl refl), λ h. refl)
  where
    by : (over under : ℕ) → over ≡ y - x → under ≡ x - y → x ≤ y
    by over zero a b = omega arith
    by over (suc under) a b = absurd (false≢true (is.1 (omega arith)))

-- a number that was read is at least so many parts of the whole
pub within_read : (bound : Decimal) (x : Numeral) (whole : ℕ) (answer : Bool) (read : Number) → bound.mantissa ≤ 1000000000000000000 → IsRead read x
    → (IsTrue answer ↔ (x.figures.mantissa * 10 ^ (x.figures.dropped + x.raised + whole) < bound.mantissa * 10 ^ (bound.exponent + x.lowered)))
    → (IsTrue (not answer) ↔ (decimal_parts read bound ≤ number_parts whole read))
within_read bound x whole answer read short is less =
    let same : x.figures.dropped + x.raised + whole ≡ x.figures.dropped + (read.raised + whole) = let r = is.raised in omega arith in
    let lowered : bound.mantissa * 10 ^ (bound.exponent + x.lowered) ≡ bound.mantissa * 10 ^ (bound.exponent + read.lowered) = ap (λ (n : ℕ). bound.mantissa * 10 ^ (bound.exponent + n)) (sym is.lowered) in
    let parts : bound.mantissa * 10 ^ (bound.exponent + read.lowered) ≡ bound.mantissa * 10 ^ bound.exponent * 10 ^ read.lowered = split bound.mantissa bound.exponent read.lowered in
    let figures = figures_less read.digits x.figures is.figures bound.mantissa (bound.exponent + read.lowered) (read.raised + whole) short in
    not_less answer (bound.mantissa * 10 ^ bound.exponent * 10 ^ read.lowered) (read.digits * 10 ^ (read.raised + whole))
    (subst (λ (t : ℕ). IsTrue answer ↔ (read.digits * 10 ^ (read.raised + whole) < t)) parts (
      (λ yes. figures.0 (subst (λ (t : ℕ). x.figures.mantissa * 10 ^ (x.figures.dropped + (read.raised + whole)) < t) lowered
          (subst (λ (n : ℕ). x.figures.mantissa * 10 ^ n < bound.mantissa * 10 ^ (bound.exponent + x.lowered)) same (less.0 yes)))),
      λ under. less.1 (subst (λ (n : ℕ). x.figures.mantissa * 10 ^ n < bound.mantissa * 10 ^ (bound.exponent + x.lowered)) (sym same)
          (subst (λ (t : ℕ). x.figures.mantissa * 10 ^ (x.figures.dropped + (read.raised + whole)) < t) (sym lowered) (figures.1 under))),
    ))

-- a number that was read is less than 1
pub below_read : (x : Numeral) (answer : Bool) (read : Number) → IsRead read x
    → (IsTrue answer ↔ (x.figures.mantissa * 10 ^ (x.figures.dropped + x.raised) < 1 * 10 ^ x.lowered)) → answer ≡ is_below_one read
below_read x answer read is less =
    let figures = figures_less read.digits x.figures is.figures 1 read.lowered read.raised (omega arith) in
    let raised : x.figures.mantissa * 10 ^ (x.figures.dropped + x.raised) ≡ x.figures.mantissa * 10 ^ (x.figures.dropped + read.raised) =
    ap (λ (n : ℕ). x.figures.mantissa * 10 ^ (x.figures.dropped + n)) (sym is.raised) in
    let lowered : 1 * 10 ^ x.lowered ≡ 1 * 10 ^ read.lowered = ap (λ (n : ℕ). 1 * 10 ^ n) (sym is.lowered) in
    let one : 1 * 10 ^ read.lowered ≡ 10 ^ read.lowered = omega arith in
    ltb_from_iff
    ((λ yes. let h = figures.0 (let l = less.0 yes in omega arith) in omega arith), λ under. less.1 (let h = figures.1 (omega arith) in omega arith))
