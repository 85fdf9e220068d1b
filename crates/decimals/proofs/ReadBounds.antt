-- What the first digits of a number say of it.
use Rattle.std.proofs.Common.{ℕ, ◌+◌, ◌*◌, ◌^◌, ◌≤◌, ◌<◌, ◌≡◌, inl, inr, refl, ap, false, arith}
use Rattle.std.specs.Prelude.{◌⊎◌, Option, None, Some, IfSome}
use Rattle.std.proofs.lemmas.Bool.{cases_lt}
use Rattle.std.proofs.Math.Nat.{mul-le-mul_left, mul-le-mul_right, pow-le-pow_right}
use Rattle.decimals.specs.declared.decimal.Decimal.{Decimal}
use Rattle.decimals.specs.declared.figures.Figures.{Figures}
use Rattle.decimals.specs.declared.numeral.Numeral.{Numeral}
use Rattle.decimals.specs.Decimals.{parts, HasPlaces}
use Rattle.decimals.specs.inner.Decimals.{IsNear}
use Rattle.decimals.specs.Numerals.{Number}
use Rattle.decimals.specs.Decimals.{number_parts, decimal_parts}
use Rattle.decimals.specs.inner.Figures.{AreFigures, IsRead}
use Rattle.decimals.proofs.Powers.{ten_sum}

pub if_some : {P Q : Decimal → Type 0} (r : Option Decimal) → ((x : Decimal) → P x → Q x) → IfSome r P → IfSome r Q
if_some None f h = h
if_some (Some x) f h = f x h

-- the power that is left
rest_power : (m k r w : ℕ) → m * 10 ^ (k + r + w) ≡ m * 10 ^ k * 10 ^ (r + w)
rest_power m k r w =
    let e : m * 10 ^ (k + r + w) ≡ m * (10 ^ k * 10 ^ (r + w)) = ap (λ t. m * t) (ten_sum (k + r + w) k (r + w) (omega arith)) in
    omega arith

-- few digits are all there
pub all_there : (n : ℕ) (x : Figures) → AreFigures n x → n ≤ 999999999999999999 → x.more ≡ false
all_there n x are few = at (cases_lt 0 x.dropped)
  where
    at : (0 < x.dropped) ⊎ (x.dropped ≤ 0) → x.more ≡ false
    at (inr none) = are.kept (omega arith)
    at (inl some) = long are.full
      where
        long : (x.dropped ≡ 0) ⊎ (100000000000000000 ≤ x.mantissa) → x.more ≡ false
        long (inl none) = absurd (omega arith)
        long (inr many) =
            let p : 10 ^ 1 ≤ 10 ^ x.dropped = pow-le-pow_right {n = 10} (omega arith) {i = 1} {j = x.dropped} (omega arith) in
            let q : x.mantissa * 10 ^ 1 ≤ x.mantissa * 10 ^ x.dropped = mul-le-mul_left x.mantissa p in
            let l = are.least in
            absurd (omega arith)

-- the digits are near the number
pub near_digits : (n : ℕ) (x : Figures) → AreFigures n x → IsNear n (x.mantissa * 10 ^ x.dropped)
near_digits n x are = at are.full
  where
    at : (x.dropped ≡ 0) ⊎ (100000000000000000 ≤ x.mantissa) → IsNear n (x.mantissa * 10 ^ x.dropped)
    at (inl none) = let e = are.exact (are.kept none) in omega arith
    at (inr many) =
        let p : 100000000000000000 * 10 ^ x.dropped ≤ x.mantissa * 10 ^ x.dropped = mul-le-mul_right (10 ^ x.dropped) many in
        let q = are.most in
        omega arith

-- as are the digits above
pub near_above : (n u : ℕ) (x : Figures) → AreFigures n x → u ≤ x.mantissa + 1 → (x.more ≡ false → u ≡ x.mantissa) → IsNear (u * 10 ^ x.dropped) n
near_above n u x are few kept = at are.full
  where
    at : (x.dropped ≡ 0) ⊎ (100000000000000000 ≤ x.mantissa) → IsNear (u * 10 ^ x.dropped) n
    at (inl none) =
        let e = are.exact (are.kept none) in
        let f : u * 10 ^ x.dropped ≡ x.mantissa * 10 ^ x.dropped = ap (λ t. t * 10 ^ x.dropped) (kept (are.kept none)) in
        omega arith
    at (inr many) =
        let p : 100000000000000000 * 10 ^ x.dropped ≤ x.mantissa * 10 ^ x.dropped = mul-le-mul_right (10 ^ x.dropped) many in
        let q : u * 10 ^ x.dropped ≤ (x.mantissa + 1) * 10 ^ x.dropped = mul-le-mul_right (10 ^ x.dropped) few in
        let l = are.least in
        omega arith

-- some digits above are of some digits
pub some_digits : (n u : ℕ) (x : Figures) → AreFigures n x → (x.more ≡ false → u ≡ x.mantissa) → 0 < u → 0 < x.mantissa
some_digits n u x are kept some = at are.full
  where
    at : (x.dropped ≡ 0) ⊎ (100000000000000000 ≤ x.mantissa) → 0 < x.mantissa
    at (inl none) = let e = kept (are.kept none) in omega arith
    at (inr many) = omega arith

near_times : (a b p : ℕ) → IsNear a b → IsNear (a * p) (b * p)
near_times a b p near = let h : a * 100000000000000000 * p ≤ b * 100000000000000001 * p = mul-le-mul_right p near in omega arith

-- y is what a decimal comes to, l what is divided by
pub down_read : (number : Number) (x : Numeral) (whole : ℕ) (y : Decimal) → IsRead number x
    → parts y * 10 ^ x.lowered ≤ x.figures.mantissa * 10 ^ (x.figures.dropped + x.raised + whole) → decimal_parts number y ≤ number_parts whole number
down_read number x whole y is cut =
    let e = rest_power x.figures.mantissa x.figures.dropped x.raised whole in
    let h : x.figures.mantissa * 10 ^ x.figures.dropped * 10 ^ (x.raised + whole) ≤ number.digits * 10 ^ (x.raised + whole) = mul-le-mul_right (10 ^ (x.raised + whole)) is.figures.least in
    rw (is.raised, is.lowered) (omega arith)

pub up_read : (number : Number) (x : Numeral) (whole u : ℕ) (y : Decimal) → IsRead number x → number.digits ≤ u * 10 ^ x.figures.dropped
    → u * 10 ^ (x.figures.dropped + x.raised + whole) ≤ parts y * 10 ^ x.lowered → number_parts whole number ≤ decimal_parts number y
up_read number x whole u y is least cut =
    let e = rest_power u x.figures.dropped x.raised whole in
    let h : number.digits * 10 ^ (x.raised + whole) ≤ u * 10 ^ x.figures.dropped * 10 ^ (x.raised + whole) = mul-le-mul_right (10 ^ (x.raised + whole)) least in
    rw (is.raised, is.lowered) (omega arith)

pub exact_read : (number : Number) (x : Numeral) (whole u : ℕ) (y : Decimal) → IsRead number x → number.digits ≤ 999999999999999999 → (x.figures.more ≡ false → u ≡ x.figures.mantissa)
    → parts y * 10 ^ x.lowered ≡ u * 10 ^ (x.figures.dropped + x.raised + whole) → decimal_parts number y ≡ number_parts whole number
exact_read number x whole u y is few kept same =
    let more = all_there number.digits x.figures is.figures few in
    let e = rest_power u x.figures.dropped x.raised whole in
    let f : u * 10 ^ x.figures.dropped * 10 ^ (x.raised + whole) ≡ x.figures.mantissa * 10 ^ x.figures.dropped * 10 ^ (x.raised + whole) = ap (λ t. t * 10 ^ x.figures.dropped * 10 ^ (x.raised + whole)) (kept more) in
    let g : number.digits * 10 ^ (x.raised + whole) ≡ x.figures.mantissa * 10 ^ x.figures.dropped * 10 ^ (x.raised + whole) = ap (λ t. t * 10 ^ (x.raised + whole)) (is.figures.exact more) in
    rw (is.raised, is.lowered) (omega arith)

pub near_down : (number : Number) (x : Numeral) (whole : ℕ) (y : Decimal) → IsRead number x
    → parts y * 10 ^ x.lowered ≡ x.figures.mantissa * 10 ^ (x.figures.dropped + x.raised + whole) → IsNear (number_parts whole number) (decimal_parts number y)
near_down number x whole y is same =
    let e = rest_power x.figures.mantissa x.figures.dropped x.raised whole in
    let h = near_times number.digits (x.figures.mantissa * 10 ^ x.figures.dropped) (10 ^ (x.raised + whole)) (near_digits number.digits x.figures is.figures) in
    rw (is.raised, is.lowered) (omega arith)

pub near_up : (number : Number) (x : Numeral) (whole u : ℕ) (y : Decimal) → IsRead number x → u ≤ x.figures.mantissa + 1 → (x.figures.more ≡ false → u ≡ x.figures.mantissa)
    → parts y * 10 ^ x.lowered ≡ u * 10 ^ (x.figures.dropped + x.raised + whole) → IsNear (decimal_parts number y) (number_parts whole number)
near_up number x whole u y is few kept same =
    let e = rest_power u x.figures.dropped x.raised whole in
    let h = near_times (u * 10 ^ x.figures.dropped) number.digits (10 ^ (x.raised + whole)) (near_above number.digits u x.figures is.figures few kept) in
    rw (is.raised, is.lowered) (omega arith)

-- the places of what is read are those that the number is divided by
pub places_read : (number : Number) (x : Numeral) (whole : ℕ) (y : Decimal) → IsRead number x → (y.mantissa ≡ 0) ⊎ (x.figures.dropped + x.raised + whole ≤ y.exponent + x.lowered) → HasPlaces whole number.lowered y
places_read number x whole y is (inl none) = inl none
places_read number x whole y is (inr some) = inr (omega (arith, is.lowered))

-- a number that no decimal is as great as
pub great_read : (number : Number) (x : Numeral) (whole k most : ℕ) → IsRead number x → 0 < x.figures.mantissa → k ≤ most → x.lowered + most ≤ x.figures.dropped + x.raised + whole → 10 ^ number.lowered * 10 ^ k ≤ number_parts whole number
great_read number x whole k most is some within great =
    let l = x.lowered in
    let t = x.figures.dropped + x.raised + whole in
    let a : 10 ^ (l + k) ≤ 10 ^ t = pow-le-pow_right {n = 10} (omega arith) {i = l + k} {j = t} (omega arith) in
    let b = ten_sum (l + k) l k refl in
    let c : 1 * 10 ^ t ≤ x.figures.mantissa * 10 ^ t = mul-le-mul_right {m = 1} {n = x.figures.mantissa} (10 ^ t) some in
    let e = rest_power x.figures.mantissa x.figures.dropped x.raised whole in
    let h : x.figures.mantissa * 10 ^ x.figures.dropped * 10 ^ (x.raised + whole) ≤ number.digits * 10 ^ (x.raised + whole) = mul-le-mul_right (10 ^ (x.raised + whole)) is.figures.least in
    rw (is.raised, is.lowered) (omega arith)
