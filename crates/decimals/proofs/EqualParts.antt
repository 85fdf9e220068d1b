-- Parts of decimals, and decimals that are no more than the whole.
use Rattle.std.proofs.Common.{ℕ, zero, suc, ◌+◌, ◌-◌, ◌*◌, ◌/◌, ◌%◌, ◌^◌, ◌≤◌, ◌<◌, ◌≡◌, min, ap, inl, inr, arith}
use Rattle.std.specs.Prelude.{◌⊎◌}
use Rattle.std.proofs.lemmas.Bool.{cases_lt}
use Rattle.std.proofs.Math.Nat.{mul-le-mul_left, mul-le-mul_right, pow-le-pow_right}
use Rattle.decimals.specs.Decimals.{AreNear, HavePlaces}
use Rattle.decimals.proofs.Powers.{ten_pos, ten_sum, above_whole}
use Rattle.decimals.proofs.Cuts.{cut_quotient, cut_ceiling}
use Rattle.decimals.proofs.Nearness.{near_units, near_scale, near_same}

pub lift_once : (m e : ℕ) → 0 < e → m * 10 * 10 ^ (e - 1) ≡ m * 10 ^ e
lift_once m e some =
    let p : m * 10 ^ e ≡ m * (10 ^ (e - 1) * 10) = ap (λ t. m * t) (ten_sum e (e - 1) 1 (omega arith)) in
    omega arith

pub part_down : (m c p : ℕ) → 0 < c → m / c * p * c ≤ m * p
part_down m c p some =
    let h = cut_quotient m c some in
    let k : m / c * c * p ≤ m * p = mul-le-mul_right p h.0 in
    omega arith

pub part_up : (m c n p : ℕ) → 0 < c → n ≡ m / c + min 1 (m % c) → m * p ≤ n * p * c
part_up m c n p some is =
    let h = cut_ceiling m n c some is in
    let k : m * p ≤ n * c * p = mul-le-mul_right p h.0 in
    omega arith

-- a mantissa at an exponent, with g zeros to the whole
pub part_far : (m e w : ℕ) → m ≤ 1000000000000000000 → e ≤ w → 18 < w - e → m * 10 ^ e ≤ 10 ^ w
part_far m e w few in_whole far =
    let p : 10 ^ 18 ≤ 10 ^ (w - e) = pow-le-pow_right {n = 10} (omega arith) {i = 18} {j = w - e} (omega arith) in
    let q : m * 10 ^ e ≤ 10 ^ (w - e) * 10 ^ e = mul-le-mul_right (10 ^ e) (omega arith) in
    let r = ten_sum w (w - e) e (omega arith) in
    omega arith

pub part_within : (m e w : ℕ) → e ≤ w → m ≤ 10 ^ (w - e) → m * 10 ^ e ≤ 10 ^ w
part_within m e w in_whole few =
    let q : m * 10 ^ e ≤ 10 ^ (w - e) * 10 ^ e = mul-le-mul_right (10 ^ e) few in
    let r = ten_sum w (w - e) e (omega arith) in
    omega arith

pub part_above : (m e w : ℕ) → e ≤ w → 10 ^ (w - e) < m → 10 ^ w < m * 10 ^ e
part_above m e w in_whole many =
    let q : (10 ^ (w - e) + 1) * 10 ^ e ≤ m * 10 ^ e = mul-le-mul_right (10 ^ e) (omega arith) in
    let r = ten_sum w (w - e) e (omega arith) in
    let s = ten_pos e in
    omega arith

pub part_over : (m e w : ℕ) → 0 < m → w < e → 10 ^ w < m * 10 ^ e
part_over m e w some over = let h = above_whole m e w some over in let p = ten_pos w in omega arith

-- how a number comes to 18 digits, a digit a step
abbrev pub IsLifting : ℕ → ℕ → ℕ → Type 0
IsLifting step first now = (first ≡ 0) ⊎ ((100000000000000000 < now) ⊎ (10 ^ step ≤ now))

pub lifting_first : (m : ℕ) → IsLifting 0 m m
lifting_first zero = inl (omega arith)
lifting_first (suc m) = inr (inr (omega arith))

pub lifting_more : (step first now next : ℕ) → (100000000000000000 < now → next ≡ now) → (now ≤ 100000000000000000 → next ≡ now * 10) → IsLifting step first now → IsLifting (step + 1) first next
lifting_more step first now next full more (inl none) = inl none
lifting_more step first now next full more (inr (inl great)) = let e = full great in inr (inl (omega arith))
lifting_more step first now next full more (inr (inr long)) = at (cases_lt 100000000000000000 now)
  where
    at : (100000000000000000 < now) ⊎ (now ≤ 100000000000000000) → IsLifting (step + 1) first next
    at (inl great) = let e = full great in inr (inl (omega arith))
    at (inr few) = let e = more few in let h = ten_sum (step + 1) step 1 (omega arith) in inr (inr (omega arith))

pub lifting_last : (step first now : ℕ) → step ≡ 18 → IsLifting step first now → (first ≡ 0) ⊎ (100000000000000000 < now)
lifting_last step first now all (inl none) = inl none
lifting_last step first now all (inr (inl great)) = inr great
lifting_last step first now all (inr (inr long)) = let h : 10 ^ step ≡ 10 ^ 18 = ap (λ k. 10 ^ k) all in inr (omega arith)

-- a part of a number of 18 digits, times how many there are, is near it
part_down_units : (m c q : ℕ) → 0 < c → c ≤ 1000 → 100000000000000000 < m → m < (q + 1) * c → m * 100000000000000000 ≤ q * c * (100000000000000000 + c)
part_down_units m c q some few full less =
    let h : 100000000000000002 * c ≤ (q * c + c) * c = mul-le-mul_right c (omega arith) in
    let k : c * c ≤ 1000 * c = mul-le-mul_right c few in
    omega arith

part_up_units : (m c q : ℕ) → 100000000000000000 < m → q * c < m + c → q * c * 100000000000000000 ≤ m * (100000000000000000 + c)
part_up_units m c q full less = let h : 100000000000000000 * c ≤ m * c = mul-le-mul_right c (omega arith) in omega arith

none_times : (m k : ℕ) → m ≡ 0 → m * k ≡ 0
none_times m k none = let h : m * k ≡ 0 * k = ap (λ t. t * k) none in omega arith

few_times : (k c : ℕ) → k * c < c → k ≡ 0
few_times zero c h = omega arith
few_times (suc k) c h = absurd (omega arith)

pub part_none : (m c : ℕ) → 0 < c → m ≡ 0 → m / c ≡ 0
part_none m c some none = let q = cut_quotient m c some in few_times (m / c) c (omega (arith, q.0))

pub ceiling_none : (m c n : ℕ) → 0 < c → n ≡ m / c + min 1 (m % c) → m ≡ 0 → n ≡ 0
ceiling_none m c n some is none = let q = cut_ceiling m n c some is in few_times n c (omega (arith, q.1))

pub part_down_near : (first m c p : ℕ) → 0 < c → c ≤ 1000 → (first ≡ 0 → m ≡ 0) → (first ≡ 0) ⊎ (100000000000000000 < m) → AreNear c (m * p) (m / c * p * c)
part_down_near first m c p some few keeps (inl none) =
    let q = cut_quotient m c some in
    let e : m * p ≡ 0 = none_times m p (keeps none) in
    rw e (omega arith)
part_down_near first m c p some few keeps (inr full) =
    let q = cut_quotient m c some in
    let e : p * (m / c * c) ≡ m / c * p * c = omega arith in
    let f : p * m ≡ m * p = omega arith in
    rw (← e, ← f) (near_scale c p m (m / c * c) (near_units c m (m / c * c) (part_down_units m c (m / c) some few full q.1)))

pub part_up_near : (first m c n p : ℕ) → 0 < c → n ≡ m / c + min 1 (m % c) → (first ≡ 0 → m ≡ 0) → (first ≡ 0) ⊎ (100000000000000000 < m) → AreNear c (n * p * c) (m * p)
part_up_near first m c n p some is keeps (inl none) =
    let no : n ≡ 0 = ceiling_none m c n some is (keeps none) in
    let e : n * p * c ≡ 0 * p * c = ap (λ t. t * p * c) no in
    let f : n * p * c ≡ 0 = omega arith in
    rw f (omega arith)
part_up_near first m c n p some is keeps (inr full) =
    let q = cut_ceiling m n c some is in
    let e : p * (n * c) ≡ n * p * c = omega arith in
    let f : p * m ≡ m * p = omega arith in
    rw (← e, ← f) (near_scale c p (n * c) m (near_units c (n * c) m (part_up_units m c n full q.1)))

-- a number of which the mantissa is nothing only where it was so, has 18 places more at most
pub lifted_places : (whole places first e m f n : ℕ) → e ≤ f + 18 → (first ≡ 0 → n ≡ 0) → HavePlaces whole places first e → HavePlaces whole (places + 18) n f
lifted_places whole places first e m f n room keeps (inl none) = inl (keeps none)
lifted_places whole places first e m f n room keeps (inr some) = inr (omega arith)

-- with room for 18 places more there are as many zeros behind the number
pub room_places : (whole places m e : ℕ) → places + 18 ≤ whole → HavePlaces whole places m e → (m ≡ 0) ⊎ (18 ≤ e)
room_places whole places m e fit (inl none) = inl none
room_places whole places m e fit (inr some) = inr (omega arith)
