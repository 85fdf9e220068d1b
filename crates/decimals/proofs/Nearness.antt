-- Numbers that are near, step by step.
use Rattle.std.proofs.Common.{ℕ, zero, suc, ◌+◌, ◌-◌, ◌*◌, ◌^◌, ◌≤◌, ◌<◌, ◌≡◌, ◌∙◌, sym, ap, subst, inl, inr, arith}
use Rattle.std.proofs.lemmas.Nat.{pow-add}
use Rattle.std.proofs.Math.Nat.{pow-succ', pow-zero, one-le-pow, pow-le-pow_left, le_of_mul-le-mul_left, mul-le-mul_left, mul-le-mul_right, mul-le-mul}
use Rattle.decimals.specs.Decimals.{AreNear, HavePlaces}

then_at : (x y z a b p q : ℕ) → x * a ≤ y * b → y * p ≤ z * q → x * (a * p) ≤ z * (b * q)
then_at x y z a b p q first second =
    let h : x * a * p ≤ y * b * p = mul-le-mul_right p first in
    let k : y * p * b ≤ z * q * b = mul-le-mul_right b second in
    omega arith

times_at : (x y u v a b p q : ℕ) → x * a ≤ y * b → u * p ≤ v * q → x * u * (a * p) ≤ y * v * (b * q)
times_at x y u v a b p q first second = let h : x * a * (u * p) ≤ y * b * (v * q) = mul-le-mul first second in omega arith

pub near_same : (i x : ℕ) → AreNear i x x
near_same i x = mul-le-mul_left x (pow-le-pow_left {n = 100000000000000000} {m = 100000000000000001} (omega arith) i)

pub near_then : (i j x y z : ℕ) → AreNear i x y → AreNear j y z → AreNear (i + j) x z
near_then i j x y z first second =
    rw (pow-add 100000000000000000 i j, pow-add 100000000000000001 i j)
    (then_at x y z (100000000000000000 ^ i) (100000000000000001 ^ i) (100000000000000000 ^ j) (100000000000000001 ^ j) first second)

pub near_times : (i j x y u v : ℕ) → AreNear i x y → AreNear j u v → AreNear (i + j) (x * u) (y * v)
near_times i j x y u v first second =
    rw (pow-add 100000000000000000 i j, pow-add 100000000000000001 i j)
    (times_at x y u v (100000000000000000 ^ i) (100000000000000001 ^ i) (100000000000000000 ^ j) (100000000000000001 ^ j) first second)

pub near_plus : (i x y u v : ℕ) → AreNear i x y → AreNear i u v → AreNear i (x + u) (y + v)
near_plus i x y u v first second = omega arith

pub near_more : (i j x y : ℕ) → i ≤ j → AreNear i x y → AreNear j x y
near_more i j x y le near =
    let e : i + (j - i) ≡ j = omega arith in
    subst (λ k. AreNear k x y) e (near_then i (j - i) x y y near (near_same (j - i) y))

cancel_at : (s x y a b : ℕ) → 0 < s → s * x * a ≤ s * y * b → x * a ≤ y * b
cancel_at s x y a b pos h = let k : s * (x * a) ≤ s * (y * b) = omega arith in le_of_mul-le-mul_left {k = s} k pos

pub near_cancel : (i s x y : ℕ) → 0 < s → AreNear i (s * x) (s * y) → AreNear i x y
near_cancel i s x y pos near = cancel_at s x y (100000000000000000 ^ i) (100000000000000001 ^ i) pos near

scale_at : (s x y a b : ℕ) → x * a ≤ y * b → s * x * a ≤ s * y * b
scale_at s x y a b h = let k : s * (x * a) ≤ s * (y * b) = mul-le-mul_left s h in omega arith

pub near_scale : (i s x y : ℕ) → AreNear i x y → AreNear i (s * x) (s * y)
near_scale i s x y near = scale_at s x y (100000000000000000 ^ i) (100000000000000001 ^ i) near

pub more_places : (whole p q number exponent : ℕ) → p ≤ q → HavePlaces whole p number exponent → HavePlaces whole q number exponent
more_places whole p q number exponent le (inl none) = inl none
more_places whole p q number exponent le (inr some) = inr (omega arith)

-- so many times a small part more is less than so many steps
pub steps_more : (p d j : ℕ) → (p + j * d) * p ^ j ≤ p * (p + d) ^ j
steps_more p d zero = rw (pow-zero p, pow-zero (p + d)) (omega arith)
steps_more p d (suc j) =
    let h = steps_more p d j in
    let g : p ^ j ≤ (p + d) ^ j = pow-le-pow_left {n = p} {m = p + d} (omega arith) j in
    let a : (p + j * d + d) * p ^ j ≤ (p + d) * (p + d) ^ j = more (p ^ j) ((p + d) ^ j) h g in
    let b : p * ((p + j * d + d) * p ^ j) ≤ p * ((p + d) * (p + d) ^ j) = mul-le-mul_left p a in
    let e : suc j * d ≡ j * d + d = omega arith in
    rw (pow-succ' p j, pow-succ' (p + d) j) (omega arith)
  where
    more : (u v : ℕ) → (p + j * d) * u ≤ p * v → u ≤ v → (p + j * d + d) * u ≤ (p + d) * v
    more u v h g = let k : d * u ≤ d * v = mul-le-mul_left d g in omega arith

-- above by so many times one in the 17th digit, at once
pub near_units : (c x y : ℕ) → x * 100000000000000000 ≤ y * (100000000000000000 + c) → AreNear c x y
near_units c x y at_once =
    let h = steps_more 100000000000000000 1 c in
    at (100000000000000000 ^ c) (100000000000000001 ^ c) h
  where
    at : (u v : ℕ) → (100000000000000000 + c * 1) * u ≤ 100000000000000000 * v → x * u ≤ y * v
    at u v h =
        let a : x * 100000000000000000 * u ≤ y * (100000000000000000 + c) * u = mul-le-mul_right u at_once in
        let b : y * ((100000000000000000 + c * 1) * u) ≤ y * (100000000000000000 * v) = mul-le-mul_left y h in
        omega arith

-- so many steps are less than so many small parts more
pub steps_less : (times rest : ℕ) → times + rest ≡ 100000000000000000 → 100000000000000001 ^ times * rest ≤ 100000000000000000 ^ times * 100000000000000000
steps_less zero rest all = rw (pow-zero 100000000000000001, pow-zero 100000000000000000) (omega arith)
steps_less (suc times) rest all =
    let h = steps_less times (rest + 1) (omega arith) in
    rw (pow-succ' 100000000000000001 times, pow-succ' 100000000000000000 times) (more (100000000000000001 ^ times) (100000000000000000 ^ times) h)
  where
    more : (u v : ℕ) → u * (rest + 1) ≤ v * 100000000000000000 → 100000000000000001 * u * rest ≤ 100000000000000000 * v * 100000000000000000
    more u v h =
        let a : u * (100000000000000001 * rest) ≤ u * (100000000000000000 * (rest + 1)) = mul-le-mul_left u (omega arith) in
        omega arith

power_times : (a i j : ℕ) → a ^ (i * j) ≡ (a ^ i) ^ j
power_times a i zero = let none : i * zero ≡ zero = omega arith in ap (λ k. a ^ k) none ∙ (pow-zero a ∙ sym (pow-zero (a ^ i)))
power_times a i (suc j) =
    let e : i * suc j ≡ i * j + i = omega arith in
    ap (λ k. a ^ k) e ∙ (pow-add a (i * j) i ∙ (ap (λ t. t * a ^ i) (power_times a i j) ∙ (turn ((a ^ i) ^ j) (a ^ i) ∙ sym (pow-succ' (a ^ i) j))))
  where
    turn : (x y : ℕ) → x * y ≡ y * x
    turn x y = omega arith

-- above by so many times what so many steps are more than none
pub near_often : (times j x y more : ℕ) → 100000000000000001 ^ times ≡ 100000000000000000 ^ times + more → x * 100000000000000000 ^ times ≤ y * (100000000000000000 ^ times + j * more) → AreNear (times * j) x y
near_often times j x y more is at_once =
    let h = steps_more (100000000000000000 ^ times) more j in
    rw (power_times 100000000000000000 times j, power_times 100000000000000001 times j, is)
    (at (100000000000000000 ^ times) ((100000000000000000 ^ times) ^ j) ((100000000000000000 ^ times + more) ^ j) (pow-pos times) at_once h)
  where
    pow-pos : (k : ℕ) → 0 < 100000000000000000 ^ k
    pow-pos k = let h = one-le-pow k 100000000000000000 (omega arith) in omega arith

    at : (p u v : ℕ) → 0 < p → x * p ≤ y * (p + j * more) → (p + j * more) * u ≤ p * v → x * u ≤ y * v
    at p u v pos first h =
        let a : x * p * u ≤ y * (p + j * more) * u = mul-le-mul_right u first in
        let b : y * ((p + j * more) * u) ≤ y * (p * v) = mul-le-mul_left y h in
        le_of_mul-le-mul_left {k = p} (omega arith) pos
