-- The bounds of families that are near, from those of their parts.
use Rattle.std.proofs.Common.{ℕ, ◌+◌, ◌*◌, ◌^◌, ◌≤◌, ◌<◌, ◌≡◌, min, subst, arith}
use Rattle.std.proofs.Math.Nat.{le_of_mul-le-mul_left, mul-le-mul_left, mul-le-mul_right, mul-le-mul}
use Rattle.decimals.specs.Decimals.{AreNear}
use Rattle.decimals.proofs.Nearness.{near_then, near_times, near_plus, near_cancel, near_scale}

-- a lower bound of a family, by two products and their sum
pub below_near : (s a b x y r : ℕ) → AreNear 1 a (s * x) → AreNear 1 b (s * y) → AreNear 1 (x + y) r → AreNear 2 (a + b) (s * r)
below_near s a b x y r one other sum =
    let h : AreNear 1 (a + b) (s * x + s * y) = near_plus 1 a (s * x) b (s * y) one other in
    let k : AreNear 1 (s * (x + y)) (s * r) = near_scale 1 s (x + y) r sum in
    let e : s * (x + y) ≡ s * x + s * y = omega arith in
    near_then 1 1 (a + b) (s * x + s * y) (s * r) h (subst (λ n. AreNear 1 n (s * r)) e k)

pub above_near : (s a b x y r : ℕ) → AreNear 1 (s * x) a → AreNear 1 (s * y) b → AreNear 1 r (x + y) → AreNear 2 (s * r) (a + b)
above_near s a b x y r one other sum =
    let h : AreNear 1 (s * x + s * y) (a + b) = near_plus 1 (s * x) a (s * y) b one other in
    let k : AreNear 1 (s * r) (s * (x + y)) = near_scale 1 s r (x + y) sum in
    let e : s * (x + y) ≡ s * x + s * y = omega arith in
    near_then 1 1 (s * r) (s * x + s * y) (a + b) (subst (λ n. AreNear 1 (s * r) n) e k) h

-- it stays near where it is cut off
pub within_near : (s n x r : ℕ) → AreNear 2 (s * x) n → r ≡ min x s → AreNear 2 (s * r) n
within_near s n x r near same =
    let less : s * r ≤ s * x = mul-le-mul_left s (omega (arith, same)) in
    let h : s * r * 100000000000000000 ^ 2 ≤ s * x * 100000000000000000 ^ 2 = mul-le-mul_right (100000000000000000 ^ 2) less in
    omega (arith, h, near)

-- the bounds of a family from those of its parts
pub family_near : (s hn h ln l ul uh ll lh ru rd u m : ℕ) → 0 < s → AreNear 2 (s * ru) (hn * ul + h * uh) → AreNear 2 (ln * ll + l * lh) (s * rd)
    → AreNear u hn ln → AreNear u h l → AreNear m ul ll → AreNear m uh lh → AreNear (4 + u + m) ru rd
family_near s hn h ln l ul uh ll lh ru rd u m pos up down absent present lo hi =
    let a = near_times u m hn ln ul ll absent lo in
    let b = near_times u m h l uh lh present hi in
    let c = near_plus (u + m) (hn * ul) (ln * ll) (h * uh) (l * lh) a b in
    let d = near_then 2 (u + m) (s * ru) (hn * ul + h * uh) (ln * ll + l * lh) up c in
    let e = near_then (2 + (u + m)) 2 (s * ru) (ln * ll + l * lh) (s * rd) d down in
    let all : 2 + (u + m) + 2 ≡ 4 + u + m = omega arith in
    near_cancel (4 + u + m) s ru rd pos (subst (λ k. AreNear k (s * ru) (s * rd)) all e)

-- a product is within the whole, and so is a sum of two
pub product_within : (s a b : ℕ) → a ≤ s → b ≤ s → a * b ≤ 2 * (s * s)
product_within s a b ha hb = let h : a * b ≤ s * s = mul-le-mul ha hb in omega arith

pub sum_within : (s n l a b x y : ℕ) → 0 < s → n + l ≤ s → a ≤ s → b ≤ s → s * x ≤ n * a → s * y ≤ l * b → x + y ≤ s
sum_within s n l a b x y pos whole low high one other =
    let h : n * a ≤ n * s = mul-le-mul_left n low in
    let k : l * b ≤ l * s = mul-le-mul_left l high in
    let m : (n + l) * s ≤ s * s = mul-le-mul_right s whole in
    let t : s * (x + y) ≤ s * s = omega arith in
    le_of_mul-le-mul_left {k = s} t pos
