-- The text of a decimal is a number of the same worth.
use Rattle.std.proofs.Common.{ℕ, ◌+◌, ◌-◌, ◌*◌, ◌/◌, ◌%◌, ◌^◌, ◌≤◌, ◌<◌, ◌≡◌, ◌==◌, ◌∙◌, nat_le, nat_lt, refl, sym, ap, subst, Bool, true, false, not, ◌&&◌, ◌||◌, cond, if◌then◌else◌, List, [], ◌∷◌, ◌++◌, length, take, drop, decimal, arith}
use Rattle.std.specs.Prelude.{Option, None, Some}
use Rattle.std.specs.List.{count_by, list_all, prefix_len}
use Rattle.std.proofs.lemmas.Bool.{le-leb, and_parts, and_from, or_left, eqb-true, false≢true, ltb-true, ltb-false}
use Rattle.std.proofs.lemmas.Fmt.{decimal_by_steps, length-decimal-le}
use Rattle.std.proofs.lemmas.List.Sums.{fold-append, sum_by-cons}
use Rattle.std.proofs.lemmas.List.Folds.{list_all-append}
use Rattle.std.proofs.Math.Nat.{div-add-mod, mul-le-mul_left}
use Rattle.std.proofs.Math.Seq.{take-append_seam, drop-append_seam}
use Rattle.decimals.specs.declared.decimal.Decimal.{Decimal}
use Rattle.decimals.specs.Decimals.{parts}
use Rattle.decimals.specs.Numerals.{Number, digit_of, is_digit, is_figure, is_run, behind, worth, point, is_fraction, is_plain, places, plain, exponent_of, raised, lowered, signed, number_behind, front_len, number_of}
use Rattle.decimals.specs.DecimalTexts.{Trim, trimmed, fraction_text, figures_text, trimmed_text, decimal_text}
use Rattle.decimals.specs.inner.DecimalTexts.{ReadsBack}
use Rattle.decimals.proofs.Powers.{ten_pos, ten_sum}
use Rattle.decimals.proofs.Trimming.{trimmed_worth}

-- ---- digits

picked : {X : Type 0} (a b : Bool) (x y : X) → a ≡ true → b ≡ true → (if a && b then x else y) ≡ x
picked true true x y ea eb = refl
picked true false x y ea eb = absurd (false≢true eb)
picked false b x y ea eb = absurd (false≢true ea)

digit_at : (n : ℕ) → n < 10 → digit_of (48 + n) ≡ n
digit_at n few =
    picked (nat_le 48 (48 + n)) (nat_le (48 + n) 57) (48 + n - 48) _ (le-leb 48 (48 + n) (omega arith)) (le-leb (48 + n) 57 (omega arith)) ∙ less
  where
    less : 48 + n - 48 ≡ n
    less = omega arith

is_digit_at : (n : ℕ) → n < 10 → is_digit 10 (48 + n) ≡ true
is_digit_at n few = le-leb (digit_of (48 + n) + 1) 10 (let h = digit_at n few in omega arith)

-- what a digit adds
behind_at : (n b : ℕ) → is_digit 10 b ≡ true → behind 10 n b ≡ n * 10 + digit_of b
behind_at n b there = pick (is_digit 10 b) there
  where
    pick : (t : Bool) → t ≡ true → (if t then n * 10 + digit_of b else n) ≡ n * 10 + digit_of b
    pick true e = refl
    pick false e = absurd (false≢true e)

-- digits of a number
pub record AreDigits (n : ℕ) (ds : List ℕ) : Type 0 where
  pub some : 0 < length ds
  pub each : list_all (is_digit 10) ds ≡ true
  pub worth : worth 10 ds ≡ n

one_digit : (n : ℕ) → n < 10 → AreDigits n ((48 + n) ∷ [])
one_digit n few =
    record {
      some = omega arith;
      each = and_from (is_digit 10 (48 + n)) true (is_digit_at n few) refl;
      worth = behind_at 0 (48 + n) (is_digit_at n few) ∙ (let h = digit_at n few in omega arith);
    }

more_digits : (n : ℕ) (ds : List ℕ) → 10 ≤ n → AreDigits (n / 10) ds → AreDigits n (ds ++ ((48 + n % 10) ∷ []))
more_digits n ds many are =
    let few : n % 10 < 10 = omega arith in
    let d = is_digit_at (n % 10) few in
    let v = digit_at (n % 10) few in
    let w = div-add-mod n 10 in
    let f = are.worth in
    record {
      some = longer ds ((48 + n % 10) ∷ []) are.some;
      each = list_all-append (is_digit 10) ds ((48 + n % 10) ∷ []) ∙ and_from (list_all (is_digit 10) ds) _ are.each (and_from (is_digit 10 (48 + n % 10)) true d refl);
      worth = fold-append (behind 10) 0 ds ((48 + n % 10) ∷ []) ∙ (behind_at (worth 10 ds) (48 + n % 10) d ∙ (omega arith));
    }
  where
    longer : (xs ys : List ℕ) → 0 < length xs → 0 < length (xs ++ ys)
    longer [] ys some = absurd (omega arith)
    longer (x ∷ xs) ys some = omega arith

decimal_digits : (n : ℕ) → n < 2 ^ 64 → AreDigits n (decimal n)
decimal_digits n h = decimal_by_steps AreDigits one_digit more_digits n h

-- ---- fronts of texts

-- a digit is none of these bytes
digit_not : (b c : ℕ) → is_digit 10 b ≡ true → is_digit 10 c ≡ false → (b == c) ≡ false
digit_not b c there none = at (b == c) refl
  where
    at : (t : Bool) → (b == c) ≡ t → t ≡ false
    at false e = refl
    at true e = absurd (false≢true (sym none ∙ (sym (ap (is_digit 10) (eqb-true b c e)) ∙ there)))

weaker : (p q : ℕ → Bool) → ((b : ℕ) → p b ≡ true → q b ≡ true) → (xs : List ℕ) → list_all p xs ≡ true → list_all q xs ≡ true
weaker p q more [] all = refl
weaker p q more (x ∷ xs) all =
    let h = and_parts (p x) (list_all p xs) all in
    and_from (q x) (list_all q xs) (more x h.0) (weaker p q more xs h.1)

all_front : (p : ℕ → Bool) (xs ys : List ℕ) → list_all p xs ≡ true → prefix_len p (xs ++ ys) ≡ length xs + prefix_len p ys
all_front p [] ys all = omega arith
all_front p (x ∷ xs) ys all = at (p x) (list_all p xs) (and_parts (p x) (list_all p xs) all) (λ e. all_front p xs ys e)
  where
    at : (a b : Bool) → (a ≡ true) × (b ≡ true) → (b ≡ true → prefix_len p (xs ++ ys) ≡ length xs + prefix_len p ys) → cond a (1 + prefix_len p (xs ++ ys)) 0 ≡ length (x ∷ xs) + prefix_len p ys
    at true b h more = let e = more h.1 in omega arith
    at false b h more = absurd (false≢true h.0)

one_counted : (b : Bool) (n : ℕ) → b ≡ true → cond b 1 0 + n ≡ 1 + n
one_counted true n e = refl
one_counted false n e = absurd (false≢true e)

all_count : (p : ℕ → Bool) (xs : List ℕ) → list_all p xs ≡ true → count_by p xs ≡ length xs
all_count p [] all = refl
all_count p (x ∷ xs) all =
    let h = and_parts (p x) (list_all p xs) all in
    let b = all_count p xs h.1 in
    let e : 1 + count_by p xs ≡ length (x ∷ xs) = omega arith in
    sum_by-cons (λ y. cond (p y) 1 0) x xs ∙ (one_counted (p x) (count_by p xs) h.0 ∙ e)

none_before : (n : ℕ) → 0 + n ≡ n
none_before n = omega arith

-- a text in two parts, of which the second begins with what the first has nowhere
in_front : ℕ → Bool
in_front b = is_figure 10 b || b == 46

front_is : (front back : List ℕ) → list_all (λ b. is_figure 10 b || b == 46) front ≡ true → front_len back ≡ 0 → front_len (front ++ back) ≡ length front
front_is front back all none = let h = all_front (λ b. is_figure 10 b || b == 46) front back all in omega arith

read_split : (front back : List ℕ) → list_all (λ b. is_figure 10 b || b == 46) front ≡ true → front_len back ≡ 0 → is_plain front ≡ true → number_of (front ++ back) ≡ number_behind front back
read_split front back all none whole =
    at (front_len (front ++ back)) (front_is front back all none)
  where
    pick : (t : Bool) → t ≡ true → (if t then number_behind front back else None) ≡ number_behind front back
    pick true e = refl
    pick false e = absurd (false≢true e)

    both : (f b : List ℕ) → f ≡ front → b ≡ back → (if is_plain f then number_behind f b else None) ≡ number_behind front back
    both f b ef eb = rw (ef, eb) (pick (is_plain front) whole)

    at : (k : ℕ) → k ≡ length front → (if is_plain (take k (front ++ back)) then number_behind (take k (front ++ back)) (drop k (front ++ back)) else None) ≡ number_behind front back
    at k e =
        both (take k (front ++ back)) (drop k (front ++ back)) (ap (λ (i : ℕ). take i (front ++ back)) e ∙ take-append_seam front back)
        (ap (λ (i : ℕ). drop i (front ++ back)) e ∙ drop-append_seam front back)

-- ---- the digits with a point behind the first

-- what is read of them
record IsFront (n : ℕ) (rest front : List ℕ) : Type 0 where
  all : list_all (λ b. is_figure 10 b || b == 46) front ≡ true
  whole : is_plain front ≡ true
  worth : worth 10 front ≡ n
  places : places front ≡ length rest

figure : (b : ℕ) → is_digit 10 b ≡ true → is_figure 10 b ≡ true
figure b there = or_left (is_digit 10 b) (b == 95) there

front_byte : (b : ℕ) → is_digit 10 b ≡ true → (is_figure 10 b || b == 46) ≡ true
front_byte b there = or_left (is_figure 10 b) (b == 46) (figure b there)

-- up to the point stands one digit
point_behind : (first : ℕ) (more : List ℕ) → is_digit 10 first ≡ true → point (first ∷ more) ≡ 1 + point more
point_behind first more there = at (first == 46) (digit_not first 46 there refl)
  where
    at : (t : Bool) → t ≡ false → cond (not t) (1 + point more) 0 ≡ 1 + point more
    at false e = refl
    at true e = absurd (false≢true (sym e))

run_of : (b : ℕ) (bytes : List ℕ) → list_all (is_digit 10) (b ∷ bytes) ≡ true → is_run 10 (b ∷ bytes) ≡ true
run_of b bytes all =
    let h = and_parts (is_digit 10 b) (list_all (is_digit 10) bytes) all in
    and_from (is_digit 10 b) (list_all (is_figure 10) bytes) h.0 (weaker (is_digit 10) (is_figure 10) figure bytes h.1)

front_read : (n first : ℕ) (rest : List ℕ) → AreDigits n (first ∷ rest) → IsFront n rest (first ∷ fraction_text rest)
front_read n first [] are =
    let h = and_parts (is_digit 10 first) true are.each in
    let p : point (first ∷ []) ≡ 1 = point_behind first [] h.0 in
    record {
      all = and_from (is_figure 10 first || first == 46) true (front_byte first h.0) refl;
      whole = subst (λ (k : ℕ). is_run 10 (take k (first ∷ [])) && is_fraction (drop k (first ∷ [])) ≡ true) (sym p) (and_from (is_run 10 (first ∷ [])) true (run_of first [] are.each) refl);
      worth = are.worth;
      places = subst (λ (k : ℕ). count_by (is_digit 10) (drop k (first ∷ [])) ≡ 0) (sym p) refl;
    }
front_read n first (b ∷ bytes) are =
    let h = and_parts (is_digit 10 first) (list_all (is_digit 10) (b ∷ bytes)) are.each in
    let p : point (first ∷ (46 ∷ (b ∷ bytes))) ≡ 1 = point_behind first (46 ∷ (b ∷ bytes)) h.0 in
    let more = weaker (is_digit 10) (λ c. is_figure 10 c || c == 46) front_byte (b ∷ bytes) h.1 in
    record {
      all = and_from (is_figure 10 first || first == 46) _ (front_byte first h.0) more;
      whole = subst (λ (k : ℕ). is_run 10 (take k (first ∷ (46 ∷ (b ∷ bytes)))) && is_fraction (drop k (first ∷ (46 ∷ (b ∷ bytes)))) ≡ true) (sym p)
          (and_from (is_run 10 (first ∷ [])) (is_run 10 (b ∷ bytes)) (run_of first [] (and_from (is_digit 10 first) true h.0 refl)) (run_of b bytes h.1));
      worth = are.worth;
      places = subst (λ (k : ℕ). count_by (is_digit 10) (drop k (first ∷ (46 ∷ (b ∷ bytes)))) ≡ length (b ∷ bytes)) (sym p)
          (sum_by-cons (λ y. cond (is_digit 10 y) 1 0) 46 (b ∷ bytes) ∙ (none_before (count_by (is_digit 10) (b ∷ bytes)) ∙ all_count (is_digit 10) (b ∷ bytes) h.1));
    }

-- ---- the power of ten

exponent_read : (e : ℕ) → e ≤ 10000000000 → exponent_of (decimal e) ≡ Some e
exponent_read e few = at (decimal e) (decimal_digits e (omega arith))
  where
    pick : (t u : Bool) (n : ℕ) → t ≡ true → u ≡ true → n ≡ e → (if t && u then Some n else None) ≡ Some e
    pick true true n et eu en = ap (λ (k : ℕ). Some k) en
    pick true false n et eu en = absurd (false≢true eu)
    pick false u n et eu en = absurd (false≢true et)

    at : (ds : List ℕ) → AreDigits e ds → exponent_of ds ≡ Some e
    at [] are = absurd (let h = are.some in omega arith)
    at (b ∷ bytes) are = pick (is_run 10 (b ∷ bytes)) _ (worth 10 (b ∷ bytes)) (run_of b bytes are.each) (le-leb (worth 10 (b ∷ bytes)) 10000000000 (let h = are.worth in omega arith)) are.worth

-- an exponent without a sign
signed_read : (front : List ℕ) (e : ℕ) → e ≤ 10000000000 → signed front (decimal e) ≡ raised front (Some e)
signed_read front e few = at (decimal e) (decimal_digits e (omega arith)) (exponent_read e few)
  where
    pick : (t u : Bool) (x y z : Option Number) → t ≡ false → u ≡ false → (if t then x else if u then y else z) ≡ z
    pick false false x y z et eu = refl
    pick false true x y z et eu = absurd (false≢true (sym eu))
    pick true u x y z et eu = absurd (false≢true (sym et))

    at : (ds : List ℕ) → AreDigits e ds → exponent_of ds ≡ Some e → signed front ds ≡ raised front (Some e)
    at [] are is = absurd (let h = are.some in omega arith)
    at (b ∷ bytes) are is =
        let h = and_parts (is_digit 10 b) (list_all (is_digit 10) bytes) are.each in
        pick (b == 45) (b == 43) (lowered front (exponent_of bytes)) (raised front (exponent_of bytes)) (raised front (exponent_of (b ∷ bytes))) (digit_not b 45 h.0 refl) (digit_not b 43 h.0 refl)
        ∙ ap (raised front) is

-- ---- all of it

worth_is : (m d z e l r w : ℕ) → d * 10 ^ z ≡ m → z + e + l ≡ r + w → m * 10 ^ e * 10 ^ l ≡ d * 10 ^ (r + w)
worth_is m d z e l r w is sum =
    let a : d * 10 ^ (z + e + l) ≡ d * (10 ^ (z + e) * 10 ^ l) = ap (λ k. d * k) (ten_sum (z + e + l) (z + e) l refl) in
    let b : d * 10 ^ (z + e) * 10 ^ l ≡ d * (10 ^ z * 10 ^ e) * 10 ^ l = ap (λ k. d * k * 10 ^ l) (ten_sum (z + e) z e refl) in
    let c : d * 10 ^ z * 10 ^ e * 10 ^ l ≡ m * 10 ^ e * 10 ^ l = ap (λ k. k * 10 ^ e * 10 ^ l) is in
    let f : d * 10 ^ (z + e + l) ≡ d * 10 ^ (r + w) = ap (λ k. d * 10 ^ k) sum in
    omega arith

-- x is m at an exponent, and its digits d stand before z zeros
same_worth : (whole d z low r : ℕ) (x : Decimal) (front rest : List ℕ) → d * 10 ^ z ≡ x.mantissa → IsFront d rest front → z + x.exponent + low ≡ r + whole → parts x * 10 ^ low ≡ worth 10 front * 10 ^ (r + whole)
same_worth whole d z low r x front rest is read sum = rw read.worth (worth_is x.mantissa d z x.exponent low r whole is sum)

-- the text of some digits with zeros behind them
digits_read : (whole d z : ℕ) (x : Decimal) (ds : List ℕ) → whole < 2 ^ 32 → x.exponent < 2 ^ 32 → z ≤ 18 → d * 10 ^ z ≡ x.mantissa → AreDigits d ds → length ds ≤ 19 → ReadsBack whole x (figures_text whole (x.exponent + z) ds)
digits_read whole d z x [] hw he hz is are few = absurd (let h = are.some in omega arith)
digits_read whole d z x (first ∷ rest) hw he hz is are few = ends (power == whole) (nat_lt whole power) refl refl
  where
    power : ℕ
    power = length rest + (x.exponent + z)

    front : List ℕ
    front = first ∷ fraction_text rest

    read : IsFront d rest front
    read = front_read d first rest are

    short : length rest ≤ 18
    short = omega (arith, few)

    ends : (b c : Bool) → (power == whole) ≡ b → nat_lt whole power ≡ c
        → ReadsBack whole x (front ++ (if b then [] else if c then 101 ∷ decimal (power - whole) else 101 ∷ (45 ∷ decimal (whole - power))))
    ends true c eb ec =
        let e = eqb-true power whole eb in
        let p = read.places in
        record {
          number = plain front;
          read = read_split front [] read.all refl read.whole;
          same = same_worth whole d z (places front) 0 x front rest is read (omega arith);
        }
    ends false true eb ec =
        let e = ltb-true whole power ec in
        let p = read.places in
        record {
          number = record { digits = worth 10 front; raised = power - whole; lowered = places front };
          read = read_split front (101 ∷ decimal (power - whole)) read.all refl read.whole ∙ signed_read front (power - whole) (omega (arith, short, he, hz));
          same = same_worth whole d z (places front) (power - whole) x front rest is read (omega arith);
        }
    ends false false eb ec =
        let e = ltb-false whole power ec in
        let p = read.places in
        record {
          number = record { digits = worth 10 front; raised = 0; lowered = places front + (whole - power) };
          read = read_split front (101 ∷ (45 ∷ decimal (whole - power))) read.all refl read.whole ∙ ap (lowered front) (exponent_read (whole - power) (omega (arith, hw)));
          same = same_worth whole d z (places front + (whole - power)) 0 x front rest is read (omega arith);
        }

zero_read : (whole : ℕ) (x : Decimal) → x.mantissa ≡ 0 → ReadsBack whole x (48 ∷ [])
zero_read whole x none =
    let e : x.mantissa * 10 ^ x.exponent ≡ 0 * 10 ^ x.exponent = ap (λ k. k * 10 ^ x.exponent) none in
    record { number = record { digits = 0; raised = 0; lowered = 0 }; read = refl; same = omega arith }

trimmed_read : (whole : ℕ) (x : Decimal) (found : Trim) → whole < 2 ^ 32 → x.exponent < 2 ^ 32 → x.mantissa ≤ 1000000000000000000 → found.digits * 10 ^ found.zeros ≡ x.mantissa → found.zeros ≤ 18
    → ReadsBack whole x (trimmed_text whole x.exponent found)
trimmed_read whole x found hw he hm is few =
    let h : found.digits * 1 ≤ found.digits * 10 ^ found.zeros = mul-le-mul_left found.digits (ten_pos found.zeros) in
    let l = length-decimal-le 19 found.digits (omega arith) (omega arith) (omega arith) in
    digits_read whole found.digits found.zeros x (decimal found.digits) hw he few is (decimal_digits found.digits (omega arith)) l

pub reads_back : (whole : ℕ) (x : Decimal) → whole < 2 ^ 32 → x.exponent < 2 ^ 32 → x.mantissa ≤ 1000000000000000000 → ReadsBack whole x (decimal_text whole x)
reads_back whole x hw he hm = at (x.mantissa == 0) refl
  where
    at : (b : Bool) → (x.mantissa == 0) ≡ b → ReadsBack whole x (if b then 48 ∷ [] else trimmed_text whole x.exponent (trimmed 18 0 x.mantissa))
    at true e = zero_read whole x (eqb-true x.mantissa 0 e)
    at false e =
        let t = trimmed_worth 18 0 x.mantissa in
        let w = t.worth in
        trimmed_read whole x (trimmed 18 0 x.mantissa) hw he hm (omega arith) (omega (arith, t.few))
