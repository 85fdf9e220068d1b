-- The first digits of a number, with a digit more.
use Rattle.std.proofs.Common.{ℕ, ◌+◌, ◌*◌, ◌^◌, ◌≤◌, ◌<◌, ◌≡◌, inl, inr, sym, subst, refl, ap, Bool, true, arith}
use Rattle.std.specs.Prelude.{◌⊎◌, if◌then◌else◌}
use Rattle.std.proofs.lemmas.Bool.{false≢true}
use Rattle.decimals.specs.declared.figures.Figures.{Figures}
use Rattle.decimals.specs.Numerals.{behind, digit_of, is_digit}
use Rattle.decimals.specs.inner.Figures.{AreFigures}
use Rattle.decimals.proofs.Powers.{ten_none, ten_sum}

-- while there is room
pub short_with : (n d : ℕ) (x : Figures) → AreFigures n x → d ≤ 9 → x.mantissa < 100000000000000000 → AreFigures (n * 10 + d) record { mantissa = x.mantissa * 10 + d; dropped = x.dropped; more = x.more }
short_with n d x are few room = at are.full
  where
    at : (x.dropped ≡ 0) ⊎ (100000000000000000 ≤ x.mantissa) → AreFigures (n * 10 + d) record { mantissa = x.mantissa * 10 + d; dropped = x.dropped; more = x.more }
    at (inr many) = absurd (omega arith)
    at (inl all) =
        let one = ten_none x.dropped all in
        let e : n ≡ x.mantissa * 10 ^ x.dropped = are.exact (are.kept all) in
        let f : x.mantissa * 10 ^ x.dropped ≡ x.mantissa * 1 = ap (λ k. x.mantissa * k) one in
        let g : (x.mantissa * 10 + d) * 10 ^ x.dropped ≡ (x.mantissa * 10 + d) * 1 = ap (λ k. (x.mantissa * 10 + d) * k) one in
        let h : (x.mantissa * 10 + d + 1) * 10 ^ x.dropped ≡ (x.mantissa * 10 + d + 1) * 1 = ap (λ k. (x.mantissa * 10 + d + 1) * k) one in
        record { short = omega arith; least = omega arith; most = omega arith; exact = λ all. omega arith; full = inl all; kept = are.kept }

-- behind 18 digits
least_long : (n d m k : ℕ) → m * 10 ^ k ≤ n → m * 10 ^ (k + 1) ≤ n * 10 + d
least_long n d m k h =
    let p : m * 10 ^ (k + 1) ≡ m * (10 ^ k * 10) = ap (λ t. m * t) (ten_sum (k + 1) k 1 refl) in
    omega arith

most_long : (n d m k : ℕ) → d ≤ 9 → n < (m + 1) * 10 ^ k → n * 10 + d < (m + 1) * 10 ^ (k + 1)
most_long n d m k few h =
    let p : (m + 1) * 10 ^ (k + 1) ≡ (m + 1) * (10 ^ k * 10) = ap (λ t. (m + 1) * t) (ten_sum (k + 1) k 1 refl) in
    omega arith

exact_long : (n m k : ℕ) → n ≡ m * 10 ^ k → n * 10 + 0 ≡ m * 10 ^ (k + 1)
exact_long n m k e =
    let p : m * 10 ^ (k + 1) ≡ m * (10 ^ k * 10) = ap (λ t. m * t) (ten_sum (k + 1) k 1 refl) in
    omega arith

-- a zero
pub zero_with : (n d : ℕ) (x : Figures) → AreFigures n x → d ≡ 0 → 100000000000000000 ≤ x.mantissa → AreFigures (n * 10 + d) record { mantissa = x.mantissa; dropped = x.dropped + 1; more = x.more }
zero_with n d x are none many =
    record {
      short = are.short;
      least = least_long n d x.mantissa x.dropped are.least;
      most = most_long n d x.mantissa x.dropped (omega arith) are.most;
      exact = λ all. rw none (exact_long n x.mantissa x.dropped (are.exact all));
      full = inr many;
      kept = λ no_digit. absurd (omega (arith, no_digit));
    }

-- another digit
pub more_with : (n d : ℕ) (x : Figures) → AreFigures n x → d ≤ 9 → 100000000000000000 ≤ x.mantissa → AreFigures (n * 10 + d) record { mantissa = x.mantissa; dropped = x.dropped + 1; more = true }
more_with n d x are few many =
    record {
      short = are.short;
      least = least_long n d x.mantissa x.dropped are.least;
      most = most_long n d x.mantissa x.dropped few are.most;
      exact = λ all. absurd (false≢true (sym all));
      full = inr many;
      kept = λ no_digit. absurd (omega (arith, no_digit));
    }

-- the byte of a digit
pub behind_digit : (n byte digit : ℕ) (x : Figures) → is_digit 10 byte ≡ true → digit ≡ digit_of byte → AreFigures (n * 10 + digit) x → AreFigures (behind 10 n byte) x
behind_digit n byte digit x there is are =
    subst (λ (b : Bool). AreFigures (if b then n * 10 + digit_of byte else n) x) (sym there) (subst (λ (k : ℕ). AreFigures (n * 10 + k) x) is are)
