-- A number of a rate, with a digit before its point and one behind it, is one as AADL writes it.
use Rattle.std.proofs.Common.{ℕ, suc, ◌+◌, ◌≡◌, ◌<◌, ◌==◌, ◌&&◌, ◌||◌, not, cond, Bool, true, false, List, [], ◌∷◌, ◌++◌, drop, take, nat_le, inl, inr, refl, sym, ap, subst, ◌∙◌, append_assoc, append-nil, arith}
use Rattle.std.specs.List.{AllByRecursion, concat}
use Rattle.std.proofs.lemmas.Bool.{false≢true}
use Rattle.std.proofs.lemmas.Bool.Decides.{nat_tests}
use Rattle.aadl_syntax.specs.Form.{Byte, Digits, Either, IsBased, IsExponent, IsFraction, IsNumber, One, Perhaps, Repeated, ◌followed_by◌, is_digit, is_hexadecimal}
use Rattle.galileo_reader.specs.inner.Rates.{IsFigures, IsOpen, IsPointed, IsPower, IsWideNumber}
use Rattle.rate_numerals.specs.Numerals.{begins_with_digit, behind_point, front_or_zero, numeral, point, with_digit}

-- ---- where the point stands

-- bytes that are no point
abbrev NoPoint : List ℕ → Type 0
NoPoint bytes = AllByRecursion (λ b. (b == 46) ≡ false) bytes

-- the bytes before a point, or before the end, and those from there on
abbrev IsCut : List ℕ → List ℕ → ℕ → List ℕ → Type 0
IsCut front back n text = (take n text ≡ front) × (drop n text ≡ back)

one-more : (t : Bool) (n : ℕ) → t ≡ false → cond (not t) (1 + n) 0 ≡ suc n
one-more true n is = absurd (false≢true (sym is))
one-more false n is = omega arith

cut-at : (front back : List ℕ) → NoPoint front → point back ≡ 0 → IsCut front back (point (front ++ back)) (front ++ back)
cut-at [] back free starts = subst (λ n. IsCut [] back n back) (sym starts) (refl, refl)
cut-at (b ∷ front) back free starts =
    let rest = cut-at front back free.1 starts in
    subst (λ n. IsCut (b ∷ front) back n (b ∷ (front ++ back))) (sym (one-more (b == 46) (point (front ++ back)) free.0)) (ap (λ l. b ∷ l) rest.0, rest.1)

numeral-of : (front back : List ℕ) → NoPoint front → point back ≡ 0 → numeral (front ++ back) ≡ front_or_zero front ++ behind_point back
numeral-of front back free starts =
    let two = cut-at front back free starts in
    let n = point (front ++ back) in
    ap (λ l. front_or_zero l ++ behind_point (drop n (front ++ back))) two.0 ∙ ap (λ l. front_or_zero front ++ behind_point l) two.1

-- ---- texts without a point

no-both : (a b : List ℕ) → NoPoint a → NoPoint b → NoPoint (a ++ b)
no-both [] b free more = more
no-both (x ∷ a) b free more = (free.0, no-both a b free.1 more)

module _ (class : ℕ → Bool) (free : (b : ℕ) → class b ≡ true → (b == 46) ≡ false) where
  one-no : (bytes : List ℕ) → One class bytes → NoPoint bytes
  one-no [] one = absurd one
  one-no (b ∷ []) one = (free b one, tt)
  one-no (b ∷ c ∷ bytes) one = absurd one

  parts-no : (parts : List (List ℕ)) → AllByRecursion (One class) parts → NoPoint (concat parts)
  parts-no [] all = tt
  parts-no (part ∷ parts) all = no-both part (concat parts) (one-no part all.0) (parts-no parts all.1)

  run-no : (bytes : List ℕ) → Repeated (One class) bytes → NoPoint bytes
  run-no bytes run = subst NoPoint (sym run.whole) (parts-no run.parts run.each)

  perhaps-no : (bytes : List ℕ) → Perhaps (One class) bytes → NoPoint bytes
  perhaps-no bytes (inl none) = subst NoPoint (sym none) tt
  perhaps-no bytes (inr one) = one-no bytes one

no-digit : (b : ℕ) (low high : Bool) → nat_le 48 b ≡ low → nat_le b 57 ≡ high → (low && high) ≡ true → (b == 46) ≡ false
no-digit b true true low high is = grind (arith, nat_tests)
no-digit b true false low high is = absurd (false≢true is)
no-digit b false high low h is = absurd (false≢true is)

digit-no : (b : ℕ) → is_digit b ≡ true → (b == 46) ≡ false
digit-no b is = no-digit b (nat_le 48 b) (nat_le b 57) refl refl is

-- a byte of one class or of another
either-no : (s t : Bool) (b : ℕ) → (s ≡ true → (b == 46) ≡ false) → (t ≡ true → (b == 46) ≡ false) → (s || t) ≡ true → (b == 46) ≡ false
either-no true t b first second is = first refl
either-no false t b first second is = second is

same-no : (b n : ℕ) → (n == 46) ≡ false → (b == n) ≡ true → (b == 46) ≡ false
same-no b n other same = let is : b ≡ n = grind (arith, nat_tests) in ap (λ k. k == 46) is ∙ other

figure-no : (b : ℕ) → (is_digit b || b == 95) ≡ true → (b == 46) ≡ false
figure-no b is = either-no (is_digit b) (b == 95) b (digit-no b) (same-no b 95 refl) is

digits-no : (bytes : List ℕ) → Digits is_digit bytes → NoPoint bytes
digits-no bytes are =
    subst NoPoint (sym are.whole) (no-both are.front are.back (one-no is_digit digit-no are.front are.first) (run-no (λ b. is_digit b || b == 95) figure-no are.back are.second))

between-no : (b : ℕ) (from to : ℕ) (low high : Bool) → 46 < from → nat_le from b ≡ low → nat_le b to ≡ high → (low && high) ≡ true → (b == 46) ≡ false
between-no b from to true high above low h is = grind (arith, nat_tests)
between-no b from to false high above low h is = absurd (false≢true is)

hexadecimal-no : (b : ℕ) → is_hexadecimal b ≡ true → (b == 46) ≡ false
hexadecimal-no b is =
    either-no (is_digit b || (nat_le 65 b && nat_le b 70)) (nat_le 97 b && nat_le b 102) b
    (either-no (is_digit b) (nat_le 65 b && nat_le b 70) b (digit-no b) (between-no b 65 70 (nat_le 65 b) (nat_le b 70) (omega arith) refl refl))
    (between-no b 97 102 (nat_le 97 b) (nat_le b 102) (omega arith) refl refl) is

hexadecimals-no : (bytes : List ℕ) → Digits is_hexadecimal bytes → NoPoint bytes
hexadecimals-no bytes are =
    let figure = λ (b : ℕ) (is : (is_hexadecimal b || b == 95) ≡ true). either-no (is_hexadecimal b) (b == 95) b (hexadecimal-no b) (same-no b 95 refl) is in
    subst NoPoint (sym are.whole) (no-both are.front are.back (one-no is_hexadecimal hexadecimal-no are.front are.first) (run-no (λ b. is_hexadecimal b || b == 95) figure are.back are.second))

e-no : (b : ℕ) → (b == 101 || b == 69) ≡ true → (b == 46) ≡ false
e-no b is = either-no (b == 101) (b == 69) b (same-no b 101 refl) (same-no b 69 refl) is

sign-no : (b : ℕ) → (b == 43 || b == 45) ≡ true → (b == 46) ≡ false
sign-no b is = either-no (b == 43) (b == 45) b (same-no b 43 refl) (same-no b 45 refl) is

exponent-no : (bytes : List ℕ) → IsExponent bytes → NoPoint bytes
exponent-no bytes is =
    let rest = is.second in
    let signed = no-both rest.front rest.back (perhaps-no (λ b. b == 43 || b == 45) sign-no rest.front rest.first) (digits-no rest.back rest.second) in
    subst NoPoint (sym is.whole) (no-both is.front is.back (one-no (λ b. b == 101 || b == 69) e-no is.front is.first) (subst NoPoint (sym rest.whole) signed))

exponents-no : (bytes : List ℕ) → Perhaps IsExponent bytes → NoPoint bytes
exponents-no bytes (inl none) = subst NoPoint (sym none) tt
exponents-no bytes (inr is) = exponent-no bytes is

hash-no : (b : ℕ) → (b == 35) ≡ true → (b == 46) ≡ false
hash-no b is = same-no b 35 refl is

based-no : (bytes : List ℕ) → IsBased bytes → NoPoint bytes
based-no bytes is =
    let rest = is.second in
    let ended = no-both rest.front rest.back (hexadecimals-no rest.front rest.first) (one-no (λ b. b == 35) hash-no rest.back rest.second) in
    subst NoPoint (sym is.whole) (no-both is.front is.back (one-no (λ b. b == 35) hash-no is.front is.first) (subst NoPoint (sym rest.whole) ended))

-- ---- fronts and what follows them

-- a front of one byte at least stays as it is
front-kept : (front : List ℕ) → (front ≡ [] → ⊥) → front_or_zero front ≡ front
front-kept [] some = absurd (some refl)
front-kept (b ∷ front) some = refl

one-some : (class : ℕ → Bool) (bytes : List ℕ) → One class bytes → bytes ≡ [] → ⊥
one-some class bytes one none = subst (One class) none one

joined-some : (bytes front back : List ℕ) → bytes ≡ front ++ back → (front ≡ [] → ⊥) → bytes ≡ [] → ⊥
joined-some bytes [] back whole some none = some refl
joined-some bytes (b ∷ front) back whole some none = absurd cc

digits-some : (bytes : List ℕ) → Digits is_digit bytes → bytes ≡ [] → ⊥
digits-some bytes are none = joined-some bytes are.front are.back are.whole (one-some is_digit are.front are.first) none

-- a digit that is first is so before any bytes
one-begins : (bytes more : List ℕ) → One is_digit bytes → begins_with_digit (bytes ++ more) ≡ true
one-begins [] more one = absurd one
one-begins (b ∷ []) more one = one
one-begins (b ∷ c ∷ bytes) more one = absurd one

run-begins : (bytes front back more : List ℕ) → bytes ≡ front ++ back → One is_digit front → begins_with_digit (bytes ++ more) ≡ true
run-begins bytes front back more whole one = subst (λ l. begins_with_digit (l ++ more) ≡ true) (sym whole) (subst (λ l. begins_with_digit l ≡ true) (sym (append_assoc front back more)) (one-begins front (back ++ more) one))

-- behind a digit nothing is added
digit-kept : (bytes : List ℕ) → begins_with_digit bytes ≡ true → with_digit bytes ≡ bytes
digit-kept bytes is = by (begins_with_digit bytes) is
  where
    by : (t : Bool) → t ≡ true → cond t bytes (48 ∷ bytes) ≡ bytes
    by true same = refl
    by false same = absurd (false≢true same)

-- and where no digit is first, a 0
digit-added : (bytes : List ℕ) → begins_with_digit bytes ≡ false → with_digit bytes ≡ 48 ∷ bytes
digit-added bytes is = by (begins_with_digit bytes) is
  where
    by : (t : Bool) → t ≡ false → cond t bytes (48 ∷ bytes) ≡ 48 ∷ bytes
    by true same = absurd (false≢true (sym same))
    by false same = refl

-- a number without a point stays as it is
plain-kept : (text : List ℕ) → NoPoint text → (text ≡ [] → ⊥) → numeral text ≡ text
plain-kept text free some =
    ap numeral (sym (append-nil text)) ∙ numeral-of text [] free refl ∙ append-nil (front_or_zero text) ∙ front-kept text some

-- a point is one byte
point-is : (dot : List ℕ) → Byte 46 dot → dot ≡ 46 ∷ []
point-is [] one = absurd one
point-is (b ∷ []) one = let is : b ≡ 46 = grind (arith, nat_tests) in ap (λ k. k ∷ []) is
point-is (b ∷ c ∷ bytes) one = absurd one

-- and so does one with digits before its point and behind it
pointed-kept : (front digits more : List ℕ) → NoPoint front → (front ≡ [] → ⊥) → begins_with_digit (digits ++ more) ≡ true → numeral (front ++ (46 ∷ (digits ++ more))) ≡ front ++ (46 ∷ (digits ++ more))
pointed-kept front digits more free some is =
    numeral-of front (46 ∷ (digits ++ more)) free refl
    ∙ ap (λ l. l ++ (46 ∷ with_digit (digits ++ more))) (front-kept front some)
    ∙ ap (λ l. front ++ (46 ∷ l)) (digit-kept (digits ++ more) is)

-- ---- each form

-- a point and the digits behind it
fraction-is : (bytes front back : List ℕ) → bytes ≡ front ++ back → Byte 46 front → bytes ≡ 46 ∷ back
fraction-is bytes front back whole dot = whole ∙ ap (λ l. l ++ back) (point-is front dot)

module _ (text digits rest : List ℕ) (whole : text ≡ digits ++ rest) (are : Digits is_digit digits) where
  no-front : NoPoint digits
  no-front = digits-no digits are

  some-front : digits ≡ [] → ⊥
  some-front = digits-some digits are

  -- where no point follows
  without-point : NoPoint rest → numeral text ≡ text
  without-point free = plain-kept text (subst NoPoint (sym whole) (no-both digits rest no-front free)) (joined-some text digits rest whole some-front)

  -- where a fraction does
  with-point : (fraction more : List ℕ) → rest ≡ fraction ++ more → IsFraction fraction → numeral text ≡ text
  with-point fraction more joined is =
      let behind = is.back in
      let spelled : text ≡ digits ++ (46 ∷ (behind ++ more)) = whole ∙ ap (λ l. digits ++ l) (joined ∙ ap (λ l. l ++ more) (fraction-is fraction is.front behind is.whole is.first)) in
      ap numeral spelled
      ∙ pointed-kept digits behind more no-front some-front (run-begins behind is.second.front is.second.back more is.second.whole is.second.first)
      ∙ sym spelled

  kept-rest : (fraction more : List ℕ) → rest ≡ fraction ++ more → Perhaps IsFraction fraction → Perhaps IsExponent more → numeral text ≡ text
  kept-rest fraction more joined (inl none) exponent = without-point (subst NoPoint (sym (joined ∙ ap (λ l. l ++ more) none)) (exponents-no more exponent))
  kept-rest fraction more joined (inr is) exponent = with-point fraction more joined is

-- a number as AADL writes it stays as it is
pub number-kept : (text : List ℕ) → IsNumber text → numeral text ≡ text
number-kept text is = by is.second
  where
    by : Either (Perhaps IsFraction followed_by Perhaps IsExponent) IsBased is.back → numeral text ≡ text
    by (inl rest) = kept-rest text is.front is.back is.whole is.first rest.front rest.back rest.whole rest.first rest.second
    by (inr based) = without-point text is.front is.back is.whole is.first (based-no is.back based)

-- digits without `_` are digits
figure-of : (parts : List (List ℕ)) → AllByRecursion (One is_digit) parts → AllByRecursion (One (λ b. is_digit b || b == 95)) parts
figure-of [] all = tt
figure-of (part ∷ parts) all = (one-of part all.0, figure-of parts all.1)
  where
    or-so : (s t : Bool) → s ≡ true → (s || t) ≡ true
    or-so true t is = refl
    or-so false t is = absurd (false≢true is)

    one-of : (bytes : List ℕ) → One is_digit bytes → One (λ b. is_digit b || b == 95) bytes
    one-of [] one = absurd one
    one-of (b ∷ []) one = or-so (is_digit b) (b == 95) one
    one-of (b ∷ c ∷ bytes) one = absurd one

digits-of : (bytes : List ℕ) → IsFigures bytes → Digits is_digit bytes
digits-of bytes are = record {
  front = are.front;
  back = are.back;
  whole = are.whole;
  first = are.first;
  second = record { parts = are.second.parts; whole = are.second.whole; each = figure-of are.second.parts are.second.each };
}

exponent-of : (bytes : List ℕ) → IsPower bytes → IsExponent bytes
exponent-of bytes is = record {
  front = is.front;
  back = is.back;
  whole = is.whole;
  first = is.first;
  second = record { front = is.second.front; back = is.second.back; whole = is.second.whole; first = is.second.first; second = digits-of is.second.back is.second.second };
}

exponents-of : (bytes : List ℕ) → Perhaps IsPower bytes → Perhaps IsExponent bytes
exponents-of bytes (inl none) = inl none
exponents-of bytes (inr is) = inr (exponent-of bytes is)

-- a 0 alone is digits
zero-digits : Digits is_digit (48 ∷ [])
zero-digits = record { front = 48 ∷ []; back = []; whole = refl; first = refl; second = record { parts = []; whole = refl; each = tt } }

-- digits, a point, digits and perhaps an exponent
number-of : (front digits more : List ℕ) → Digits is_digit front → Digits is_digit digits → Perhaps IsExponent more → IsNumber (front ++ (46 ∷ (digits ++ more)))
number-of front digits more first second exponent = record {
  front = front;
  back = 46 ∷ (digits ++ more);
  whole = refl;
  first = first;
  second = inl (record {
    front = 46 ∷ digits;
    back = more;
    whole = refl;
    first = inr (record { front = 46 ∷ []; back = digits; whole = refl; first = refl; second = second });
    second = exponent;
  });
}

-- a number without digits before its point
pointed-number : (text : List ℕ) → IsPointed text → IsNumber (numeral text)
pointed-number text is =
    let rest = is.second in
    let digits = rest.front in
    let more = rest.back in
    let spelled : text ≡ 46 ∷ (digits ++ more) = fraction-is text is.front is.back is.whole is.first ∙ ap (λ l. 46 ∷ l) rest.whole in
    let begins = run-begins digits rest.first.front rest.first.back more rest.first.whole rest.first.first in
    let its : numeral text ≡ (48 ∷ []) ++ (46 ∷ (digits ++ more)) =
    ap numeral spelled ∙ numeral-of [] (46 ∷ (digits ++ more)) tt refl ∙ ap (λ l. 48 ∷ 46 ∷ l) (digit-kept (digits ++ more) begins) in
    subst IsNumber (sym its) (number-of (48 ∷ []) digits more zero-digits (digits-of digits rest.first) (exponents-of more rest.second))

-- no digit begins an exponent
e-digit : (b : ℕ) → (b == 101 || b == 69) ≡ true → is_digit b ≡ false
e-digit b is = by (b == 101) (b == 69) refl refl is
  where
    by : (s t : Bool) → (b == 101) ≡ s → (b == 69) ≡ t → (s || t) ≡ true → is_digit b ≡ false
    by true t same other is = let one : b ≡ 101 = grind (arith, nat_tests) in ap is_digit one
    by false true other same is = let one : b ≡ 69 = grind (arith, nat_tests) in ap is_digit one
    by false false other same is = absurd (false≢true is)

one-e : (front back : List ℕ) → One (λ b. b == 101 || b == 69) front → begins_with_digit (front ++ back) ≡ false
one-e [] back one = absurd one
one-e (b ∷ []) back one = e-digit b one
one-e (b ∷ c ∷ front) back one = absurd one

no-digit-begins : (bytes : List ℕ) → Perhaps IsPower bytes → begins_with_digit bytes ≡ false
no-digit-begins bytes (inl none) = ap begins_with_digit none
no-digit-begins bytes (inr is) = ap begins_with_digit is.whole ∙ one-e is.front is.back is.first

-- a number without digits behind its point
open-number : (text : List ℕ) → IsOpen text → IsNumber (numeral text)
open-number text is =
    let rest = is.second in
    let digits = is.front in
    let more = rest.back in
    let spelled : text ≡ digits ++ (46 ∷ more) = is.whole ∙ ap (λ l. digits ++ l) (fraction-is is.back rest.front more rest.whole rest.first) in
    let its : numeral text ≡ digits ++ (46 ∷ ((48 ∷ []) ++ more)) =
    ap numeral spelled ∙ numeral-of digits (46 ∷ more) (digits-no digits is.first) refl
    ∙ ap (λ l. l ++ (46 ∷ with_digit more)) (front-kept digits (digits-some digits is.first))
    ∙ ap (λ l. digits ++ (46 ∷ l)) (digit-added more (no-digit-begins more rest.second)) in
    subst IsNumber (sym its) (number-of digits (48 ∷ []) more is.first zero-digits (exponents-of more rest.second))

-- a number as other tools write it becomes one as AADL does
pub numeral-is : (text : List ℕ) → IsWideNumber text → IsNumber (numeral text)
numeral-is text (inl number) = subst IsNumber (sym (number-kept text number)) number
numeral-is text (inr (inl pointed)) = pointed-number text pointed
numeral-is text (inr (inr ended)) = open-number text ended
