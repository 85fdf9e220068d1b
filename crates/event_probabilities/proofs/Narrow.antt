-- How near the bounds of a number are, of lambda times hours, and of a rate.
use Rattle.std.proofs.Common.{ℕ, ◌+◌, ◌-◌, ◌*◌, ◌^◌, ◌≤◌, ◌<◌, ◌≡◌, ap, min, subst, inl, inr, refl, arith}
use Rattle.std.specs.Prelude.{◌⊎◌, Option, None, Some, IfSome, IsSomeAnd}
use Rattle.std.proofs.lemmas.Bool.{cases_lt}
use Rattle.std.proofs.lemmas.Nat.{pow-add}
use Rattle.std.proofs.Math.Nat.{mul-le-mul, mul-le-mul_left, mul-le-mul_right, le_of_mul-le-mul_left, one-le-pow, pow-le-pow_right}
use Rattle.decimals.specs.declared.decimal.Decimal.{Decimal}
use Rattle.decimals.specs.Decimals.{parts, AreNear, HavePlaces, HasPlaces}
use Rattle.decimals.specs.Numerals.{Number}
use Rattle.decimals.specs.Decimals.{number_parts, decimal_parts}
use Rattle.decimals.proofs.Nearness.{near_same, near_then, near_times, near_cancel, near_scale, near_more, more_places}
use Rattle.exponentials.specs.declared.span.Span.{Span}
use Rattle.exponentials.specs.inner.Widths.{IsNarrow}
use Rattle.exponentials.proofs.Narrowing.{narrow_more}
use Rattle.decimals.specs.declared.numeral.Numeral.{Numeral}
use Rattle.decimals.specs.inner.Figures.{IsRead, IsReadAs}
use Rattle.property_reader.specs.declared.rate.RateKind.{RateKind}
use Rattle.property_reader.specs.declared.rate.RateKind.TheVariants.{Lambda}
use Rattle.probabilities.specs.declared.rates.Rate.{Rate}
use Rattle.probabilities.specs.Widths.{IsNarrowRate}
use Rattle.event_probabilities.specs.declared.finding.Found.{Found}
use Rattle.event_probabilities.specs.EventRates.{IsModest, IsSmallExposure, IsNarrowProbability, IsNarrowLambda, IsNarrowRated, IsNarrowFound, over, under}
use Rattle.event_probabilities.specs.inner.EventRates.{IsNarrowSpan, IsSpanOf, IsNarrowExposure}
use Rattle.event_probabilities.proofs.Read.{ten_pos, parts_split}

cancel_right : (i s x y : ℕ) → 0 < s → AreNear i (x * s) (y * s) → AreNear i x y
cancel_right i s x y pos near =
    let ex : x * s ≡ s * x = omega arith in
    let ey : y * s ≡ s * y = omega arith in
    near_cancel i s x y pos (subst (λ k. AreNear i k (s * y)) ex (subst (λ k. AreNear i (x * s) k) ey near))

-- the bounds of a number that is read
pub span_near : (number : Number) (low high : Decimal) (exact : ℕ) → AreNear 1 (decimal_parts number high) exact → AreNear 1 exact (decimal_parts number low) → AreNear 2 (parts high) (parts low)
span_near number low high exact up down =
    cancel_right 2 (10 ^ number.lowered) (parts high) (parts low) (ten_pos number.lowered) (near_then 1 1 (decimal_parts number high) exact (decimal_parts number low) up down)

pub span_order : (number : Number) (low high : Decimal) (exact : ℕ) → decimal_parts number low ≤ exact → exact ≤ decimal_parts number high → parts low ≤ parts high
span_order number low high exact below above =
    le_of_mul-le-mul_left {k = 10 ^ number.lowered} (omega arith) (ten_pos number.lowered)

-- a number is not so great that no decimal is
pub not_great : (whole : ℕ) (number : Number) → IsModest number → 10 ^ number.lowered * 10 ^ (whole + 101) ≤ number_parts whole number → ⊥
not_great whole number modest great =
    let e = parts_split number.digits number.raised whole in
    let h : number.digits * 10 ^ number.raised * 10 ^ whole ≤ 10 ^ number.lowered * 10 ^ 100 * 10 ^ whole = mul-le-mul_right (10 ^ whole) modest in
    let f : 10 ^ number.lowered * 10 ^ (whole + 101) ≡ 10 ^ number.lowered * (10 ^ whole * 10 ^ 101) = ap (λ k. 10 ^ number.lowered * k) (pow-add 10 whole 101) in
    let p = ten_pos number.lowered in
    let q = ten_pos whole in
    let r : 1 * 1 ≤ 10 ^ number.lowered * 10 ^ whole = mul-le-mul p q in
    omega arith

-- so many places of a wider whole
pub wider_places : (whole more places number exponent : ℕ) → HavePlaces whole places number exponent → HavePlaces (whole + more) (places + more) number exponent
wider_places whole more places number exponent (inl none) = inl none
wider_places whole more places number exponent (inr some) = inr (omega arith)

pub narrower_places : (whole more places other number exponent : ℕ) → HavePlaces (whole + more) (places + more + other) number exponent → HavePlaces whole (places + other) number exponent
narrower_places whole more places other number exponent (inl none) = inl none
narrower_places whole more places other number exponent (inr some) = inr (omega arith)

-- the product of two bounds
pub product_near : (t lh hh ll hl xh xl : ℕ) → 0 < t → AreNear 1 (t * xh) (lh * hh) → AreNear 2 lh ll → AreNear 2 hh hl → AreNear 1 (ll * hl) (t * xl) → AreNear 6 xh xl
product_near t lh hh ll hl xh xl pos up one other down =
    let a = near_times 2 2 lh ll hh hl one other in
    let b = near_then 1 4 (t * xh) (lh * hh) (ll * hl) up a in
    let c = near_then 5 1 (t * xh) (ll * hl) (t * xl) b down in
    near_cancel 6 t xh xl pos c

-- x is near lambda times hours, and so no more than the whole
pub product_few : (s t L l H h lh hh xh : ℕ) → 0 < s → 0 < t → 0 < l * h → AreNear 1 (t * xh) (lh * hh) → AreNear 1 (lh * l) (L * s) → AreNear 1 (hh * h) (H * t) → L * H * 10 ≤ l * h * 9 → xh ≤ s
product_few s t L l H h lh hh xh ps pt pd up one other small =
    let a = near_times 1 1 (lh * l) (L * s) (hh * h) (H * t) one other in
    let b = near_scale 1 (l * h) (t * xh) (lh * hh) up in
    let e : l * h * (lh * hh) ≡ lh * l * (hh * h) = omega arith in
    let f : l * h * (t * xh) ≡ t * (xh * (l * h)) = omega arith in
    let g : L * s * (H * t) ≡ t * (L * H * s) = omega arith in
    let c : AreNear 3 (t * (xh * (l * h))) (t * (L * H * s)) =
    subst (λ k. AreNear 3 k (t * (L * H * s))) f (subst (λ k. AreNear 3 (l * h * (t * xh)) k) g
    (near_then 1 2 (l * h * (t * xh)) (lh * l * (hh * h)) (L * s * (H * t)) (subst (λ k. AreNear 1 (l * h * (t * xh)) k) e b) a)) in
    let d : AreNear 3 (xh * (l * h)) (L * H * s) = near_cancel 3 t (xh * (l * h)) (L * H * s) pt c in
    few (l * h) (L * H) pd d small
  where
    few : (k m : ℕ) → 0 < k → AreNear 3 (xh * k) (m * s) → m * 10 ≤ k * 9 → xh ≤ s
    few k m pos near small =
        let h : m * 10 * s ≤ k * 9 * s = mul-le-mul_right s small in
        let g : k * xh ≤ k * s = omega (arith, near) in
        le_of_mul-le-mul_left {k = k} g pos

pub wide_power : (w k : ℕ) → 10 ^ w ≤ 10 ^ (w + k)
wide_power w k = pow-le-pow_right {n = 10} (omega arith) {i = w} {j = w + k} (omega arith)

pub small_product : (whole p q : ℕ) (first second : Number) (lambda hours : Span) (x : ℕ) → IsNarrowSpan whole p first lambda → IsNarrowSpan (whole + 20) q second hours → IsSmallExposure first second
    → AreNear 1 (10 ^ (whole + 20) * x) (parts lambda.high * parts hours.high) → x ≤ 10 ^ whole
small_product whole p q first second lambda hours x one two small up =
    let e = parts_split first.digits first.raised whole in
    let f = parts_split second.digits second.raised (whole + 20) in
    let l = first.digits * 10 ^ first.raised in
    let h = second.digits * 10 ^ second.raised in
    product_few (10 ^ whole) (10 ^ (whole + 20)) l (10 ^ first.lowered) h (10 ^ second.lowered) (parts lambda.high) (parts hours.high) x (ten_pos whole) (ten_pos (whole + 20))
    (let k : 1 * 1 ≤ 10 ^ first.lowered * 10 ^ second.lowered = mul-le-mul (ten_pos first.lowered) (ten_pos second.lowered) in omega arith) up
    (subst (λ k. AreNear 1 (parts lambda.high * 10 ^ first.lowered) k) e one.above) (subst (λ k. AreNear 1 (parts hours.high * 10 ^ second.lowered) k) f two.above) small

pub square_within : (whole ll hl lh hh x : ℕ) → ll ≤ lh → hl ≤ hh → lh * hh ≤ 10 ^ (whole + 20) * x → x ≤ 10 ^ whole → ll * hl ≤ 10 ^ (whole + 20) * 10 ^ (whole + 20)
square_within whole ll hl lh hh x one two product few =
    let a : ll * hl ≤ lh * hh = mul-le-mul one two in
    let w = wide_power whole 20 in
    let b : 10 ^ (whole + 20) * x ≤ 10 ^ (whole + 20) * 10 ^ (whole + 20) = mul-le-mul_left (10 ^ (whole + 20)) (omega arith) in
    omega arith

pub exposure_narrow : (whole p q : ℕ) (lambda hours product : Span) → IsNarrow whole p 2 lambda → IsNarrow (whole + 20) q 2 hours → parts product.high ≤ 10 ^ whole
    → AreNear 1 (10 ^ (whole + 20) * parts product.high) (parts lambda.high * parts hours.high) → AreNear 1 (parts lambda.low * parts hours.low) (10 ^ (whole + 20) * parts product.low)
    → HasPlaces (whole + 20) (p + 20 + q) product.low → HasPlaces (whole + 20) (p + 20 + q) product.high
    → 10 ^ (whole + 20) * parts product.low ≤ parts lambda.low * parts hours.low → parts lambda.high * parts hours.high ≤ 10 ^ (whole + 20) * parts product.high → IsNarrowExposure whole (p + q) product
exposure_narrow whole p q lambda hours product one two few up down low_places high_places low high =
    let t = 10 ^ (whole + 20) in
    let pos = ten_pos (whole + 20) in
    let both : parts lambda.low * parts hours.low ≤ parts lambda.high * parts hours.high = mul-le-mul one.order two.order in
    let order : t * parts product.low ≤ t * parts product.high = omega arith in
    record {
      narrow =
          record {
            low_places = narrower_places whole 20 p q product.low.mantissa product.low.exponent low_places;
            high_places = narrower_places whole 20 p q product.high.mantissa product.high.exponent high_places;
            order = le_of_mul-le-mul_left {k = t} order pos;
            near = product_near t (parts lambda.high) (parts hours.high) (parts lambda.low) (parts hours.low) (parts product.high) (parts product.low) pos up one.near two.near down;
          };
      within = few;
    }

pub more_exposure : (whole p places : ℕ) (result : Option Span) → p ≤ places → IsSomeAnd result (IsNarrowExposure whole p) → IsSomeAnd result (IsNarrowExposure whole places)
more_exposure whole p places None few narrow = narrow
more_exposure whole p places (Some x) few narrow = record { narrow = narrow_more whole p places 6 6 x few (omega arith) narrow.narrow; within = narrow.within }

-- what is held within the whole
pub held_near : (s i x y : ℕ) → AreNear i x y → AreNear i (min x s) (min y s)
held_near s i x y near = at (cases_lt y s) (cases_lt x s)
  where
    same : AreNear i s s
    same = near_same i s

    at : (y < s) ⊎ (s ≤ y) → (x < s) ⊎ (s ≤ x) → AreNear i (min x s) (min y s)
    at (inl low) (inl less) =
        let ex : min x s ≡ x = omega arith in
        let ey : min y s ≡ y = omega arith in
        rw (ex, ey) near
    at (inl low) (inr more) =
        let ex : min x s ≡ s = omega arith in
        let ey : min y s ≡ y = omega arith in
        rw (ex, ey) (let h : s * 100000000000000000 ^ i ≤ x * 100000000000000000 ^ i = mul-le-mul_right (100000000000000000 ^ i) more in omega (arith, near))
    at (inr high) (inl less) =
        let ex : min x s ≡ x = omega arith in
        let ey : min y s ≡ s = omega arith in
        rw (ex, ey) (let h : x * 100000000000000000 ^ i ≤ s * 100000000000000000 ^ i = mul-le-mul_right (100000000000000000 ^ i) (omega arith) in omega (arith, same))
    at (inr high) (inr more) =
        let ex : min x s ≡ s = omega arith in
        let ey : min y s ≡ s = omega arith in
        rw (ex, ey) same

-- a probability that is read
pub prob_narrow : (whole : ℕ) (number : Number) (low high held : Decimal) (rate : Rate) → decimal_parts number low ≤ number_parts whole number → number_parts whole number ≤ decimal_parts number high
    → parts high ≤ 10 ^ whole → parts held ≡ min (parts low) (10 ^ whole) → rate.low ≡ held → rate.high ≡ high
    → (number.digits ≤ 999999999999999999 → number.lowered ≤ number.raised + whole → decimal_parts number low ≡ number_parts whole number)
    → (number.digits ≤ 999999999999999999 → number.lowered ≤ number.raised + whole → decimal_parts number high ≡ number_parts whole number)
    → (number.lowered ≤ number.raised + whole → AreNear 1 (number_parts whole number) (decimal_parts number low)) → (number.lowered ≤ number.raised + whole → AreNear 1 (decimal_parts number high) (number_parts whole number))
    → (number.lowered ≤ number.raised + whole → HasPlaces whole number.lowered low) → (number.lowered ≤ number.raised + whole → HasPlaces whole number.lowered high)
    → ((places : ℕ) → HasPlaces whole places low → HasPlaces whole places held)
    → ((places units : ℕ) → 36 ≤ places → 2 ≤ units → HasPlaces whole places held → HasPlaces whole places high → parts held ≤ parts high → AreNear units (parts high) (parts held) → IsNarrowRate whole places units rate)
    → IsNarrowProbability whole number rate
prob_narrow whole number low high held rate below above part is el eh exact_low exact_high near_low near_high places_low places_high places_held between =
    let order = span_order number low high (number_parts whole number) below above in
    let same : parts held ≡ parts low = omega arith in
    record {
      exact = λ few fit. (
        rw (el, same) (exact_low few fit),
        rw eh (exact_high few fit),
      );
      narrow = λ places units few enough lowered room.
          let fit : number.lowered ≤ number.raised + whole = omega arith in
          let near : AreNear 2 (parts high) (parts held) = rw same (span_near number low high (number_parts whole number) (near_high fit) (near_low fit)) in
          between places units few enough
          (places_held places (more_places whole number.lowered places low.mantissa low.exponent lowered (places_low fit)))
          (more_places whole number.lowered places high.mantissa high.exponent lowered (places_high fit)) (omega arith) (near_more 2 units (parts high) (parts held) enough near);
    }

-- the number that a text is, and the hours
pub narrow_of : (whole : ℕ) (kind : RateKind) (text : Option Number) (number : Numeral) (hours : Option Number) (found : Found) (rate : Rate) → IsReadAs text (Some number)
    → ((read : Number) → IsRead read number → IsNarrowFound whole kind (Some read) hours found rate) → IsNarrowFound whole kind text hours found rate
narrow_of whole kind None number hours found rate is each = absurd is
narrow_of whole kind (Some read) number hours found rate is each = each read is

pub hourly_narrow : (whole : ℕ) (read : Number) (given : Option Number) (hours : Option Numeral) (number : Numeral) (rate : Rate) → hours ≡ Some number → IsReadAs given hours
    → ((second : Number) → IsRead second number → IsNarrowLambda whole read second rate) → IsNarrowRated whole Lambda read given rate
hourly_narrow whole read None hours number rate is given each = tt
hourly_narrow whole read (Some second) hours number rate is given each = each second (rw is at given)
