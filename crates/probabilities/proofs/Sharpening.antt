-- How near the bounds of families are to the probabilities at the ends of the rates.
use Rattle.std.proofs.Common.{ℕ, zero, suc, ◌+◌, ◌-◌, ◌*◌, ◌^◌, ◌≤◌, ◌<◌, ◌≡◌, subst, inl, inr, List, [], ◌∷◌, length, slice_get, Some, arith}
use Rattle.std.specs.Prelude.{◌⊎◌}
use Rattle.std.proofs.lemmas.Bool.{cases_lt}
use Rattle.std.proofs.Math.Nat.{pow-succ', mul-le-mul_left}
use Rattle.decimals.specs.Decimals.{parts, AreNear, HasPlaces}
use Rattle.decimals.proofs.Nearness.{near_same, near_then, near_times, near_plus, near_more, near_scale, more_places}
use Rattle.zdd_store.specs.inner.Family.{Family, least_number, covers}
use Rattle.probabilities.specs.declared.rates.Bounds.{Bounds}
use Rattle.probabilities.specs.declared.rates.Rate.{Rate}
use Rattle.probabilities.specs.Weights.{weight, numbers}
use Rattle.probabilities.specs.Rates.{Rates}
use Rattle.probabilities.specs.inner.Bounded.{AreParts}
use Rattle.probabilities.specs.inner.Decided.{AreRated}
use Rattle.probabilities.specs.inner.Widths.{IsNearBelow, IsNearAbove}
use Rattle.probabilities.specs.inner.Sharp.{AreParted, AreSharp, IsSharp, IsSharpStep}
use Rattle.probabilities.proofs.Bounding.{numbers-apart, more-numbers, skip-weight, parts-weight, full-family, none-family}

-- one event more, by cases of it: n is near what is left without l, and z near what the two parts come to
low_near : (s c l n w0 w1 x y z p : ℕ) → AreNear 1 (s - l) n → AreNear c (w0 * s) (x * p) → AreNear c (w1 * s) (y * p) → AreNear 2 (n * x + l * y) (s * z)
    → AreNear (3 + c) (((s - l) * w0 + l * w1) * s) (z * (s * p))
low_near s c l n w0 w1 x y z p absent lo hi step =
    let a = near_times 1 c (s - l) n (w0 * s) (x * p) absent lo in
    let b = near_times 1 c l l (w1 * s) (y * p) (near_same 1 l) hi in
    let d = near_plus (1 + c) ((s - l) * (w0 * s)) (n * (x * p)) (l * (w1 * s)) (l * (y * p)) a b in
    let e = near_scale 2 p (n * x + l * y) (s * z) step in
    let turn : p * (n * x + l * y) ≡ n * (x * p) + l * (y * p) = omega arith in
    let f = near_then (1 + c) 2 ((s - l) * (w0 * s) + l * (w1 * s)) (n * (x * p) + l * (y * p)) (p * (s * z)) d (subst (λ k. AreNear 2 k (p * (s * z))) turn e) in
    let count : 1 + c + 2 ≡ 3 + c = omega arith in
    let from : (s - l) * (w0 * s) + l * (w1 * s) ≡ ((s - l) * w0 + l * w1) * s = all (s - l) in
    let to : p * (s * z) ≡ z * (s * p) = omega arith in
    subst (λ k. AreNear k (((s - l) * w0 + l * w1) * s) (z * (s * p))) count (subst (λ k. AreNear (1 + c + 2) k (z * (s * p))) from (subst (λ k. AreNear (1 + c + 2) ((s - l) * (w0 * s) + l * (w1 * s)) k) to f))
  where
    all : (k : ℕ) → k * (w0 * s) + l * (w1 * s) ≡ (k * w0 + l * w1) * s
    all k = omega arith

high_near : (s c h n w0 w1 x y z p : ℕ) → AreNear 1 n (s - h) → AreNear c (x * p) (w0 * s) → AreNear c (y * p) (w1 * s) → AreNear 2 (s * z) (n * x + h * y)
    → AreNear (3 + c) (z * (s * p)) (((s - h) * w0 + h * w1) * s)
high_near s c h n w0 w1 x y z p absent lo hi step =
    let a = near_times 1 c n (s - h) (x * p) (w0 * s) absent lo in
    let b = near_times 1 c h h (y * p) (w1 * s) (near_same 1 h) hi in
    let d = near_plus (1 + c) (n * (x * p)) ((s - h) * (w0 * s)) (h * (y * p)) (h * (w1 * s)) a b in
    let e = near_scale 2 p (s * z) (n * x + h * y) step in
    let turn : p * (n * x + h * y) ≡ n * (x * p) + h * (y * p) = omega arith in
    let f = near_then 2 (1 + c) (p * (s * z)) (n * (x * p) + h * (y * p)) ((s - h) * (w0 * s) + h * (w1 * s)) (subst (λ k. AreNear 2 (p * (s * z)) k) turn e) d in
    let count : 2 + (1 + c) ≡ 3 + c = omega arith in
    let from : (s - h) * (w0 * s) + h * (w1 * s) ≡ ((s - h) * w0 + h * w1) * s = all (s - h) in
    let to : p * (s * z) ≡ z * (s * p) = omega arith in
    subst (λ k. AreNear k (z * (s * p)) (((s - h) * w0 + h * w1) * s)) count (subst (λ k. AreNear (2 + (1 + c)) (z * (s * p)) k) from (subst (λ k. AreNear (2 + (1 + c)) k ((s - h) * (w0 * s) + h * (w1 * s))) to f))
  where
    all : (k : ℕ) → k * (w0 * s) + h * (w1 * s) ≡ (k * w0 + h * w1) * s
    all k = omega arith

three_more : (count : ℕ) → 3 + 3 * count ≡ 3 * suc count
three_more count = omega arith

-- an event more that makes no difference
low_past : (s count w z p : ℕ) → AreNear (3 * count) (w * s) (z * p) → AreNear (3 * suc count) (s * w * s) (z * (s * p))
low_past s count w z p near =
    let a = near_scale (3 * count) s (w * s) (z * p) near in
    let from : s * (w * s) ≡ s * w * s = omega arith in
    let to : s * (z * p) ≡ z * (s * p) = omega arith in
    near_more (3 * count) (3 * suc count) (s * w * s) (z * (s * p)) (omega arith) (subst (λ k. AreNear (3 * count) k (z * (s * p))) from (subst (λ k. AreNear (3 * count) (s * (w * s)) k) to a))

high_past : (s count w z p : ℕ) → AreNear (3 * count) (z * p) (w * s) → AreNear (3 * suc count) (z * (s * p)) (s * w * s)
high_past s count w z p near =
    let a = near_scale (3 * count) s (z * p) (w * s) near in
    let from : s * (w * s) ≡ s * w * s = omega arith in
    let to : s * (z * p) ≡ z * (s * p) = omega arith in
    near_more (3 * count) (3 * suc count) (z * (s * p)) (s * w * s) (omega arith) (subst (λ k. AreNear (3 * count) (z * (s * p)) k) from (subst (λ k. AreNear (3 * count) k (s * (w * s))) to a))

-- the numbers of a family, the weight of each outcome by s, and its bound: near from below, or from above
abbrev IsLow : ℕ → (ℕ → ℕ) → ℕ → Family → ℕ → Type 0
IsLow s m end family z =
    (count first : ℕ) → first + count ≡ end → first ≤ least_number family → AreNear (3 * count) (weight s m (numbers count first) (covers family) * s) (z * s ^ count)

abbrev IsHigh : ℕ → (ℕ → ℕ) → ℕ → Family → ℕ → Type 0
IsHigh s m end family z =
    (count first : ℕ) → first + count ≡ end → first ≤ least_number family → AreNear (3 * count) (z * s ^ count) (weight s m (numbers count first) (covers family) * s)

low_node : (s : ℕ) (m : ℕ → ℕ) (end : ℕ) (family : Family) (v : ℕ) (lo hi : Family) (n x y z : ℕ) → ((e : ℕ) → m e ≤ s) → v < end → least_number family ≡ v → AreParts family v lo hi
    → IsLow s m end lo x → IsLow s m end hi y → AreNear 1 (s - m v) n → AreNear 2 (n * x + m v * y) (s * z) → IsLow s m end family z
low_node s m end family v lo hi n x y z part inside top parts low high absent step count first ends start = go count first ends start
  where
    node : (count : ℕ) → v + suc count ≡ end → AreNear (3 * suc count) (weight s m (v ∷ numbers count (v + 1)) (covers family) * s) (z * s ^ suc count)
    node count ends =
        rw (pow-succ' s count, parts-weight s m v (numbers count (v + 1)) family lo hi (numbers-apart v count (v + 1) (omega arith)) parts)
        (subst (λ k. AreNear k (((s - m v) * weight s m (numbers count (v + 1)) (covers lo) + m v * weight s m (numbers count (v + 1)) (covers hi)) * s) (z * (s * s ^ count))) (three_more count)
        (low_near s (3 * count) (m v) n _ _ x y z (s ^ count) absent (low count (v + 1) (omega arith) (omega (arith, parts.lo_greater))) (high count (v + 1) (omega arith) (omega (arith, parts.hi_greater))) step))

    go : (count first : ℕ) → first + count ≡ end → first ≤ least_number family → AreNear (3 * count) (weight s m (numbers count first) (covers family) * s) (z * s ^ count)
    go zero first ends start = absurd (omega arith)
    go (suc count) first ends start = at (cases_lt first v) (go count (first + 1))
      where
        at : (first < v) ⊎ (v ≤ first) → (first + 1 + count ≡ end → first + 1 ≤ least_number family → AreNear (3 * count) (weight s m (numbers count (first + 1)) (covers family) * s) (z * s ^ count))
            → AreNear (3 * suc count) (weight s m (numbers (suc count) first) (covers family) * s) (z * s ^ suc count)
        at (inl less) more = rw (more-numbers count first, pow-succ' s count, skip-weight s m count first family (part first) (omega arith)) (low_past s count _ z (s ^ count) (more (omega arith) (omega arith)))
        at (inr here) more = let same : first ≡ v = omega arith in rw (more-numbers count first, same) (node count (omega arith))

high_node : (s : ℕ) (m : ℕ → ℕ) (end : ℕ) (family : Family) (v : ℕ) (lo hi : Family) (n x y z : ℕ) → ((e : ℕ) → m e ≤ s) → v < end → least_number family ≡ v → AreParts family v lo hi
    → IsHigh s m end lo x → IsHigh s m end hi y → AreNear 1 n (s - m v) → AreNear 2 (s * z) (n * x + m v * y) → IsHigh s m end family z
high_node s m end family v lo hi n x y z part inside top parts low high absent step count first ends start = go count first ends start
  where
    node : (count : ℕ) → v + suc count ≡ end → AreNear (3 * suc count) (z * s ^ suc count) (weight s m (v ∷ numbers count (v + 1)) (covers family) * s)
    node count ends =
        rw (pow-succ' s count, parts-weight s m v (numbers count (v + 1)) family lo hi (numbers-apart v count (v + 1) (omega arith)) parts)
        (subst (λ k. AreNear k (z * (s * s ^ count)) (((s - m v) * weight s m (numbers count (v + 1)) (covers lo) + m v * weight s m (numbers count (v + 1)) (covers hi)) * s)) (three_more count)
        (high_near s (3 * count) (m v) n _ _ x y z (s ^ count) absent (low count (v + 1) (omega arith) (omega (arith, parts.lo_greater))) (high count (v + 1) (omega arith) (omega (arith, parts.hi_greater))) step))

    go : (count first : ℕ) → first + count ≡ end → first ≤ least_number family → AreNear (3 * count) (z * s ^ count) (weight s m (numbers count first) (covers family) * s)
    go zero first ends start = absurd (omega arith)
    go (suc count) first ends start = at (cases_lt first v) (go count (first + 1))
      where
        at : (first < v) ⊎ (v ≤ first) → (first + 1 + count ≡ end → first + 1 ≤ least_number family → AreNear (3 * count) (z * s ^ count) (weight s m (numbers count (first + 1)) (covers family) * s))
            → AreNear (3 * suc count) (z * s ^ suc count) (weight s m (numbers (suc count) first) (covers family) * s)
        at (inl less) more = rw (more-numbers count first, pow-succ' s count, skip-weight s m count first family (part first) (omega arith)) (high_past s count _ z (s ^ count) (more (omega arith) (omega arith)))
        at (inr here) more = let same : first ≡ v = omega arith in rw (more-numbers count first, same) (node count (omega arith))

pub node_sharp : (whole : ℕ) (list : List Rate) (family low high : Family) (v : ℕ) (rate : Rate) (lo hi result : Bounds) → slice_get list v ≡ Some rate → v < length list → least_number family ≡ v
    → AreParts family v low high → IsSharp whole list low lo → IsSharp whole list high hi → IsSharpStep whole rate lo hi result → IsSharp whole list family result
node_sharp whole list family low high v rate lo hi result is inside top are first second step rates places part rated sharp room =
    let a = first rates places part rated sharp room in
    let b = second rates places part rated sharp room in
    let r = sharp v rate is in
    let at = rated v rate is in
    let count = length list - (v + 1) in
    let fit : places * (count + 1) ≤ places * length list = mul-le-mul_left places (omega arith) in
    let few_low : places * (length list - least_number low) ≤ places * count = mul-le-mul_left places (omega (arith, are.lo_greater)) in
    let few_high : places * (length list - least_number high) ≤ places * count = mul-le-mul_left places (omega (arith, are.hi_greater)) in
    let s = step places (places * count) r
    (more_places whole _ (places * count) lo.lower.mantissa lo.lower.exponent few_low a.lower_places) (more_places whole _ (places * count) hi.lower.mantissa hi.lower.exponent few_high b.lower_places)
    (more_places whole _ (places * count) lo.upper.mantissa lo.upper.exponent few_low a.upper_places) (more_places whole _ (places * count) hi.upper.mantissa hi.upper.exponent few_high b.upper_places)
    (omega arith) a.within b.within in
    let same : count + 1 ≡ length list - least_number family = omega arith in
    let all : places + places * count ≡ places * (length list - least_number family) = subst (λ k. places + places * count ≡ places * k) same (omega arith) in
    let below : IsNearBelow whole (places + places * count) (parts rate.low_not * parts lo.lower + parts rate.low * parts hi.lower) result.lower = s.0 in
    let above : IsNearAbove whole (places + places * count) (parts rate.high_not * parts lo.upper + parts rate.high * parts hi.upper) result.upper = s.1 in
    record {
      within = below.within;
      lower_places = subst (λ k. HasPlaces whole k result.lower) all below.few;
      upper_places = subst (λ k. HasPlaces whole k result.upper) all above.few;
      lower = low_node (10 ^ whole) rates.low (length list) family v low high (parts rate.low_not) (parts lo.lower) (parts hi.lower) (parts result.lower) part.low inside top are a.lower b.lower
          (rw at.low r.low_absent) (rw at.low below.near);
      upper = high_node (10 ^ whole) rates.high (length list) family v low high (parts rate.high_not) (parts lo.upper) (parts hi.upper) (parts result.upper) part.high inside top are a.upper b.upper
          (rw at.high r.high_absent) (rw at.high above.near);
    }

-- EMPTY and UNIT
pub none_sharp : (whole : ℕ) (list : List Rate) (family : Family) (bounds : Bounds) → family ≡ [] → parts bounds.lower ≡ 0 → parts bounds.upper ≡ 0 → ((places : ℕ) → HasPlaces whole places bounds.lower) → ((places : ℕ) → HasPlaces whole places bounds.upper)
    → IsSharp whole list family bounds
none_sharp whole list family bounds is lower upper low high rates places part rated sharp room =
    rw is record {
      within = omega arith;
      lower_places = low _;
      upper_places = high _;
      lower = λ count first ends start. rw (none-family (10 ^ whole) rates.low count first part.low, lower) (omega arith);
      upper = λ count first ends start. rw (none-family (10 ^ whole) rates.high count first part.high, upper) (omega arith);
    }

pub full_sharp : (whole : ℕ) (list : List Rate) (family : Family) (bounds : Bounds) → family ≡ [] ∷ [] → parts bounds.lower ≡ 10 ^ whole → parts bounds.upper ≡ 10 ^ whole → ((places : ℕ) → HasPlaces whole places bounds.lower)
    → ((places : ℕ) → HasPlaces whole places bounds.upper) → IsSharp whole list family bounds
full_sharp whole list family bounds is lower upper low high rates places part rated sharp room =
    rw is record {
      within = omega arith;
      lower_places = low _;
      upper_places = high _;
      lower = λ count first ends start. rw (full-family (10 ^ whole) rates.low count first part.low, lower) (turned count);
      upper = λ count first ends start. rw (full-family (10 ^ whole) rates.high count first part.high, upper) (turned_back count);
    }
  where
    turn : (x y : ℕ) → x * y ≡ y * x
    turn x y = omega arith

    turned : (count : ℕ) → AreNear (3 * count) ((10 ^ whole) ^ count * 10 ^ whole) (10 ^ whole * (10 ^ whole) ^ count)
    turned count = subst (λ k. AreNear (3 * count) k (10 ^ whole * (10 ^ whole) ^ count)) (turn (10 ^ whole) ((10 ^ whole) ^ count)) (near_same (3 * count) (10 ^ whole * (10 ^ whole) ^ count))

    turned_back : (count : ℕ) → AreNear (3 * count) (10 ^ whole * (10 ^ whole) ^ count) ((10 ^ whole) ^ count * 10 ^ whole)
    turned_back count = subst (λ k. AreNear (3 * count) (10 ^ whole * (10 ^ whole) ^ count) k) (turn (10 ^ whole) ((10 ^ whole) ^ count)) (near_same (3 * count) (10 ^ whole * (10 ^ whole) ^ count))
