-- What is read as a number is one.
use Rattle.std.proofs.Common.{ℕ, ◌+◌, ◌-◌, ◌≡◌, ◌==◌, ◌&&◌, ◌||◌, not, Bool, true, false, if◌then◌else◌, List, [], ◌∷◌, drop, take, inl, inr, sym, subst, refl, arith}
use Rattle.std.specs.List.{prefix_len}
use Rattle.std.proofs.Math.Numerals.{one-add}
use Rattle.std.proofs.lemmas.Bool.{eqb-false, eqb-true}
use Rattle.aadl_lexer.specs.Scan.{digits_len, number_len}
use Rattle.aadl_lexer.proofs.Most.{joined_is, led}
use Rattle.aadl_lexer.proofs.Numbers.{digits_most, number_most}
use Rattle.aadl_lexer.proofs.Runs.{run_is}
use Rattle.aadl_syntax.specs.Form.{Byte, Digits, IsNumber, One, Perhaps, Repeated, ◌followed_by◌, is_digit}
use Rattle.galileo_reader.specs.Tokens.{figures_len, rate_len, starts}
use Rattle.galileo_reader.specs.WideTokens.{after, decimals_len, exponent_len, number_more, open_len, point_len, power_len, real_len, sign_len}
use Rattle.galileo_reader.specs.inner.Rates.{IsFigures, IsPointed, IsPower, IsWideNumber}

-- a front of a byte of a class, and a front of a form behind it
led-take : (class : ℕ → Bool) (Form : List ℕ → Type 0) (b : ℕ) (text : List ℕ) (n : ℕ) → class b ≡ true → Form (take n text) → (One class followed_by Form) (take (1 + n) (b ∷ text))
led-take class Form b text n is form = subst (λ k. (One class followed_by Form) (take k (b ∷ text))) (sym (one-add n)) (led class Form b (take n text) is form)

-- what is behind so many bytes, where there is anything
after-is : (Form : ℕ → Type 0) (front n : ℕ) → ((n ≡ 0 → ⊥) → Form (front + n)) → (after front n ≡ 0 → ⊥) → Form (after front n)
after-is Form front n form some = by (n == 0) refl some
  where
    by : (c : Bool) → (n == 0) ≡ c → ((if c then 0 else front + n) ≡ 0 → ⊥) → Form (if c then 0 else front + n)
    by true e f = absurd (f refl)
    by false e f = form (eqb-false n 0 e)

-- ---- digits

figures-is : (text : List ℕ) → (figures_len text ≡ 0 → ⊥) → IsFigures (take (figures_len text) text)
figures-is [] some = absurd (some refl)
figures-is (b ∷ text) some = by (is_digit b) refl some
  where
    by : (c : Bool) → is_digit b ≡ c → ((if c then 1 + prefix_len is_digit text else 0) ≡ 0 → ⊥) → IsFigures (take (if c then 1 + prefix_len is_digit text else 0) (b ∷ text))
    by true e f = led-take is_digit (Repeated (One is_digit)) b text (prefix_len is_digit text) e (run_is is_digit text)
    by false e f = absurd (f refl)

-- ---- exponents

abbrev is_sign : ℕ → Bool
is_sign b = b == 43 || b == 45

sign-is : (text : List ℕ) → Perhaps (One is_sign) (take (sign_len text) text)
sign-is [] = inl refl
sign-is (b ∷ text) = by (b == 43 || b == 45) refl
  where
    by : (c : Bool) → (b == 43 || b == 45) ≡ c → Perhaps (One is_sign) (take (if c then 1 else 0) (b ∷ text))
    by true e = inr e
    by false e = inl refl

abbrev IsSigned : List ℕ → Type 0
IsSigned = Perhaps (One is_sign) followed_by IsFigures

power-is : (text : List ℕ) → (power_len text ≡ 0 → ⊥) → IsSigned (take (power_len text) text)
unfolding power_len
power-is text some =
    after-is (λ n. IsSigned (take n text)) (sign_len text) (figures_len (drop (sign_len text) text))
    (λ f. joined_is (Perhaps (One is_sign)) IsFigures text (sign_len text) (figures_len (drop (sign_len text) text)) (sign-is text) (figures-is (drop (sign_len text) text) f)) some

abbrev is_e : ℕ → Bool
is_e b = b == 101 || b == 69

exponent-is : (text : List ℕ) → Perhaps IsPower (take (exponent_len text) text)
unfolding exponent_len
exponent-is [] = inl refl
exponent-is (b ∷ text) = by (b == 101 || b == 69) refl (power_len text == 0) refl
  where
    by : (c : Bool) → (b == 101 || b == 69) ≡ c → (d : Bool) → (power_len text == 0) ≡ d → Perhaps IsPower (take (if c then (if d then 0 else 1 + power_len text) else 0) (b ∷ text))
    by true e true f = inl refl
    by true e false f = inr (led-take is_e IsSigned b text (power_len text) e (power-is text (eqb-false (power_len text) 0 f)))
    by false e d f = inl refl

-- ---- points

abbrev AreDecimals : List ℕ → Type 0
AreDecimals = IsFigures followed_by Perhaps IsPower

decimals-is : (text : List ℕ) → (decimals_len text ≡ 0 → ⊥) → AreDecimals (take (decimals_len text) text)
decimals-is text some = by (figures_len text == 0) refl some
  where
    by : (c : Bool) → (figures_len text == 0) ≡ c → ((if c then 0 else figures_len text + exponent_len (drop (figures_len text) text)) ≡ 0 → ⊥)
        → AreDecimals (take (if c then 0 else figures_len text + exponent_len (drop (figures_len text) text)) text)
    by true e f = absurd (f refl)
    by false e f =
        joined_is IsFigures (Perhaps IsPower) text (figures_len text) (exponent_len (drop (figures_len text) text)) (figures-is text (eqb-false (figures_len text) 0 e))
        (exponent-is (drop (figures_len text) text))

point-is : (text : List ℕ) → (point_len text ≡ 0 → ⊥) → IsPointed (take (point_len text) text)
unfolding point_len
point-is [] some = absurd (some refl)
point-is (b ∷ text) some = by (b == 46) refl some
  where
    by : (c : Bool) → (b == 46) ≡ c → ((if c then after 1 (decimals_len text) else 0) ≡ 0 → ⊥) → IsPointed (take (if c then after 1 (decimals_len text) else 0) (b ∷ text))
    by true e f = after-is (λ n. IsPointed (take n (b ∷ text))) 1 (decimals_len text) (λ g. led-take (λ c. c == 46) AreDecimals b text (decimals_len text) e (decimals-is text g)) f
    by false e f = absurd (f refl)

abbrev IsEnd : List ℕ → Type 0
IsEnd = Byte 46 followed_by Perhaps IsPower

open-is : (text : List ℕ) → (open_len text ≡ 0 → ⊥) → IsEnd (take (open_len text) text)
unfolding open_len
open-is [] some = absurd (some refl)
open-is (b ∷ text) some = by (b == 46) refl some
  where
    by : (c : Bool) → (b == 46) ≡ c → ((if c then 1 + exponent_len text else 0) ≡ 0 → ⊥) → IsEnd (take (if c then 1 + exponent_len text else 0) (b ∷ text))
    by true e f = led-take (λ c. c == 46) (Perhaps IsPower) b text (exponent_len text) e (exponent-is text)
    by false e f = absurd (f refl)

-- ---- numbers

number-some : (text : List ℕ) → (digits_len is_digit text ≡ 0 → ⊥) → number_len text ≡ 0 → ⊥
unfolding number_len
number-some text some none = some (omega (arith, none))

pub number-is : (text : List ℕ) → (digits_len is_digit text ≡ 0 → ⊥) → IsNumber (take (number_len text) text)
number-is text some = (number_most text some).form (number-some text some)

-- a number as AADL writes it, and what may stand behind it
more-is : (text : List ℕ) → (digits_len is_digit text ≡ 0 → ⊥) → IsWideNumber (take (number_more text (number_len text)) text)
more-is text some = by (number_len text == digits_len is_digit text) refl
  where
    end : List ℕ
    end = drop (number_len text) text

    ended : (d : Bool) → number_len text ≡ digits_len is_digit text → (open_len end == 0) ≡ d → IsWideNumber (take (number_len text + open_len end) text)
    ended true same e =
        let none : open_len end ≡ 0 = eqb-true (open_len end) 0 e in
        let len : number_len text ≡ number_len text + open_len end = omega (arith, none) in
        inl (subst (λ n. IsNumber (take n text)) len (number-is text some))
    ended false same e =
        inr (inr (joined_is (Digits is_digit) IsEnd text (number_len text) (open_len end) (subst (λ n. Digits is_digit (take n text)) (sym same) ((digits_most is_digit text).form some)) (open-is end (eqb-false (open_len end) 0 e))))

    by : (c : Bool) → (number_len text == digits_len is_digit text) ≡ c → IsWideNumber (take (if c then number_len text + open_len end else number_len text) text)
    by true e = ended (open_len end == 0) (eqb-true (number_len text) (digits_len is_digit text) e) refl
    by false e = inl (number-is text some)

-- a number as other tools write it
pub real-is : (text : List ℕ) → (real_len text ≡ 0 → ⊥) → IsWideNumber (take (real_len text) text)
unfolding real_len
real-is text some = by (digits_len is_digit text == 0) refl some
  where
    by : (c : Bool) → (digits_len is_digit text == 0) ≡ c → ((if c then point_len text else number_more text (number_len text)) ≡ 0 → ⊥)
        → IsWideNumber (take (if c then point_len text else number_more text (number_len text)) text)
    by true e f = inr (inl (point-is text f))
    by false e f = more-is text (eqb-false (digits_len is_digit text) 0 e)

-- a number behind the word of a rate
pub rate-is : (text word : List ℕ) (len : ℕ) → (rate_len text word len ≡ 0 → ⊥) → IsNumber (take (rate_len text word len - len) (drop len text))
unfolding rate_len
rate-is text word len some = by (starts text word) (digits_len is_digit (drop len text) == 0) refl some
  where
    by : (c d : Bool) → (digits_len is_digit (drop len text) == 0) ≡ d → ((if c && not d then len + number_len (drop len text) else 0) ≡ 0 → ⊥)
        → IsNumber (take ((if c && not d then len + number_len (drop len text) else 0) - len) (drop len text))
    by true true e f = absurd (f refl)
    by true false e f =
        let left : number_len (drop len text) ≡ len + number_len (drop len text) - len = omega arith in
        subst (λ n. IsNumber (take n (drop len text))) left (number-is (drop len text) (eqb-false (digits_len is_digit (drop len text)) 0 e))
    by false d e f = absurd (f refl)
