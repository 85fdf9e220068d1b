-- Lambda times hours, within its bounds.
use Rattle.std.proofs.Common.{ℕ, ◌+◌, ◌-◌, ◌*◌, ◌^◌, ◌≤◌, ◌<◌, ◌≡◌, ap, min, inl, inr, arith}
use Rattle.std.specs.Prelude.{◌⊎◌}
use Rattle.std.proofs.lemmas.Bool.{cases_lt}
use Rattle.std.proofs.Math.Nat.{mul-le-mul, mul-le-mul_left, mul-le-mul_right, le_of_mul-le-mul_left}
use Rattle.std.proofs.lemmas.Nat.{pow-add}
use Rattle.decimals.specs.Decimals.{parts}
use Rattle.decimals.specs.Numerals.{Number}
use Rattle.exponentials.specs.declared.span.Span.{Span}
use Rattle.exponentials.specs.declared.halving.Chance.{Chance}
use Rattle.exponentials.specs.inner.Spans.{AreChances, IsWithin}
use Rattle.probabilities.specs.declared.rates.Rate.{Rate}
use Rattle.event_probabilities.specs.EventRates.{IsLambdaRate, over, under}
use Rattle.event_probabilities.specs.inner.EventRates.{IsSpanOf}
use Rattle.event_probabilities.proofs.Read.{ten_pos, parts_split}

-- p is below x times y, which are below L and H parts of s and of t
low_at : (s t x y p l h L H : ℕ) → 0 < t → t * p ≤ x * y → x * l ≤ L * s → y * h ≤ H * t → p * (l * h) ≤ L * H * s
low_at s t x y p l h L H pos step first second =
    let a : l * h * (t * p) ≤ l * h * (x * y) = mul-le-mul_left (l * h) step in
    let b : x * l * (y * h) ≤ L * s * (H * t) = mul-le-mul first second in
    le_of_mul-le-mul_left {k = t} (omega arith) pos

high_at : (s t x y p l h L H : ℕ) → 0 < t → x * y ≤ t * p → L * s ≤ x * l → H * t ≤ y * h → L * H * s ≤ p * (l * h)
high_at s t x y p l h L H pos step first second =
    let a : l * h * (x * y) ≤ l * h * (t * p) = mul-le-mul_left (l * h) step in
    let b : L * s * (H * t) ≤ x * l * (y * h) = mul-le-mul first second in
    le_of_mul-le-mul_left {k = t} (omega arith) pos

-- a product that is not held at the whole
pub inside : (w p q : ℕ) → min (10 ^ (w + 20) * 10 ^ (w + 20)) q ≤ 10 ^ (w + 20) * p → p ≤ 10 ^ (w + 13) → q ≤ 10 ^ (w + 20) * p
inside w p q step few = at (cases_lt (10 ^ (w + 20) * 10 ^ (w + 20)) q)
  where
    at : (10 ^ (w + 20) * 10 ^ (w + 20) < q) ⊎ (q ≤ 10 ^ (w + 20) * 10 ^ (w + 20)) → q ≤ 10 ^ (w + 20) * p
    at (inr less) = let e : min (10 ^ (w + 20) * 10 ^ (w + 20)) q ≡ q = omega arith in rw e at step
    at (inl more) =
        let e : min (10 ^ (w + 20) * 10 ^ (w + 20)) q ≡ 10 ^ (w + 20) * 10 ^ (w + 20) = omega arith in
        let f : 10 ^ (w + 20) * 10 ^ (w + 20) ≤ 10 ^ (w + 20) * p = rw e at step in
        let g : 10 ^ (w + 20) ≤ p = le_of_mul-le-mul_left {k = 10 ^ (w + 20)} f (ten_pos (w + 20)) in
        let h = pow-add 10 (w + 13) 7 in
        let i : 10 ^ (w + 20) ≡ 10 ^ (w + 13 + 7) = ap (λ k. 10 ^ k) (omega arith) in
        let j = ten_pos (w + 13) in
        absurd (omega arith)

pub product_within : (whole : ℕ) (first second : Number) (lambda hours product : Span) → IsSpanOf whole first lambda → IsSpanOf (whole + 20) second hours
    → 10 ^ (whole + 20) * parts product.low ≤ parts lambda.low * parts hours.low
    → min (10 ^ (whole + 20) * 10 ^ (whole + 20)) (parts lambda.high * parts hours.high) ≤ 10 ^ (whole + 20) * parts product.high → parts product.high ≤ 10 ^ (whole + 13)
    → IsWithin whole (over first second) (under first second) product
product_within whole first second lambda hours product one two low high few =
    let e = parts_split first.digits first.raised whole in
    let f = parts_split second.digits second.raised (whole + 20) in
    let ol = one.low in
    let oh = one.high in
    let tl = two.low in
    let th = two.high in
    record {
      least = low_at (10 ^ whole) (10 ^ (whole + 20)) (parts lambda.low) (parts hours.low) (parts product.low) (10 ^ first.lowered) (10 ^ second.lowered) (first.digits * 10 ^ first.raised) (second.digits * 10 ^ second.raised)
          (ten_pos (whole + 20)) low (omega arith) (omega arith);
      most = high_at (10 ^ whole) (10 ^ (whole + 20)) (parts lambda.high) (parts hours.high) (parts product.high) (10 ^ first.lowered) (10 ^ second.lowered) (first.digits * 10 ^ first.raised) (second.digits * 10 ^ second.raised)
          (ten_pos (whole + 20)) (inside whole (parts product.high) (parts lambda.high * parts hours.high) high few) (omega arith) (omega arith);
    }

low_held : (s p r n d : ℕ) → r ≡ min p s → p * d ≤ n * s → r * d ≤ n * s
low_held s p r n d is low = let h : r * d ≤ p * d = mul-le-mul_right d (omega arith) in omega arith

high_held : (s p r n d : ℕ) → r ≡ min p s → n ≤ d → n * s ≤ p * d → n * s ≤ r * d
high_held s p r n d is few high = at (cases_lt p s)
  where
    at : (p < s) ⊎ (s ≤ p) → n * s ≤ r * d
    at (inl less) = let e : r ≡ p = omega arith in rw e high
    at (inr more) = let e : r ≡ s = omega arith in let h : n * s ≤ d * s = mul-le-mul_right s few in rw e (omega arith)

enough_at : (s a b x h p q low high : ℕ) → 0 < s → a * s ≤ x * b → (x ≤ s * h) ⊎ ((p ≡ 0) × (q ≡ s)) → low ≡ min p s → high ≡ min q s → (a ≤ b * h) ⊎ ((low ≡ 0) × (high ≡ s))
enough_at s a b x h p q low high pos most (inr none) el eh = let e = none.0 in let f = none.1 in inr (omega arith, omega arith)
enough_at s a b x h p q low high pos most (inl few) el eh =
    let g : x * b ≤ s * h * b = mul-le-mul_right b few in
    inl (le_of_mul-le-mul_left {k = s} (omega arith) pos)

-- the rate that bounds of 1 - e^(-x) make
pub lambda_held : (whole : ℕ) (lambda hours : Number) (x : Span) (chance : Chance) (rate : Rate) → IsWithin whole (over lambda hours) (under lambda hours) x → AreChances whole x chance
    → parts rate.low ≡ min (parts chance.span.low) (10 ^ whole) → parts rate.high ≡ min (parts chance.span.high) (10 ^ whole) → IsLambdaRate whole lambda hours rate
lambda_held whole lambda hours x chance rate within are low high =
    let k = chance.halvings in
    let pos : 0 < under lambda hours = (product_pos (10 ^ lambda.lowered) (10 ^ hours.lowered) (ten_pos lambda.lowered) (ten_pos hours.lowered)) in
    record {
      halvings = k;
      low = λ d m is. low_held (10 ^ whole) (parts chance.span.low) (parts rate.low) (d ^ (2 ^ k) - (d - m) ^ (2 ^ k)) (d ^ (2 ^ k)) low (are.least (over lambda hours) (under lambda hours) d m pos within is);
      high = λ d m is. high_held (10 ^ whole) (parts chance.span.high) (parts rate.high) (d ^ (2 ^ k) - (d - m) ^ (2 ^ k)) (d ^ (2 ^ k)) high (omega arith) (are.most (over lambda hours) (under lambda hours) d m pos within is);
      enough = enough_at (10 ^ whole) (over lambda hours) (under lambda hours) (parts x.high) (2 ^ k) (parts chance.span.low) (parts chance.span.high) (parts rate.low) (parts rate.high) (ten_pos whole) within.most are.enough low high;
    }
  where
    product_pos : (a b : ℕ) → 0 < a → 0 < b → 0 < a * b
    product_pos a b ha hb = let h : 1 * 1 ≤ a * b = mul-le-mul ha hb in omega arith

-- nothing is known
pub lambda_unknown : (whole : ℕ) (lambda hours : Number) (rate : Rate) → parts rate.low ≡ 0 → parts rate.high ≡ 10 ^ whole → IsLambdaRate whole lambda hours rate
lambda_unknown whole lambda hours rate low high =
    record {
      halvings = 0;
      low = λ d m is. rw low (omega arith);
      high = λ d m is. rw high (let h : (d ^ (2 ^ 0) - (d - m) ^ (2 ^ 0)) * 10 ^ whole ≤ d ^ (2 ^ 0) * 10 ^ whole = mul-le-mul_right (10 ^ whole) (omega arith) in omega arith);
      enough = inr (low, high);
    }
