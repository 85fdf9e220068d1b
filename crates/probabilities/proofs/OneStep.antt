-- One step of the bounds, in plain numbers.
use Rattle.std.proofs.Common.{min, inl, inr, ℕ, ◌+◌, ◌*◌, ◌≤◌, ◌<◌, ◌-◌, ◌≡◌, subst, sym, arith}
use Rattle.std.proofs.Math.Nat.{le_of_mul-le-mul_left, mul-le-mul_left, mul-le-mul_right}
use Rattle.std.specs.Prelude.{◌⊎◌}
use Rattle.std.proofs.lemmas.Bool.{cases_lt}

-- p out of p + c is the event's probability, a and a + b are how often the parts hold out of t
pub lower_step : (s t a b p c l n x y z : ℕ) → n + l ≤ s → l * (p + c) ≤ p * s → x * t ≤ a * s → y * t ≤ (a + b) * s → s * z ≤ n * x + l * y → s * (z * ((p + c) * t)) ≤ s * ((c * a + p * (a + b)) * s)
lower_step s t a b p c l n x y z whole least low high step =
    let h1 : (p + c) * t * (s * z) ≤ (p + c) * t * (n * x + l * y) = mul-le-mul_left ((p + c) * t) step in
    let h2 : n * (p + c) * (x * t) ≤ n * (p + c) * (a * s) = mul-le-mul_left (n * (p + c)) low in
    let h3 : l * (p + c) * (y * t) ≤ l * (p + c) * ((a + b) * s) = mul-le-mul_left (l * (p + c)) high in
    let h4 : (n + l) * ((p + c) * a * s) ≤ s * ((p + c) * a * s) = mul-le-mul_right ((p + c) * a * s) whole in
    let h5 : l * (p + c) * (b * s) ≤ p * s * (b * s) = mul-le-mul_right (b * s) least in
    omega arith

pub upper_step : (s t a b p c u n x y z : ℕ) → s ≤ n + u → p * s ≤ u * (p + c) → a * s ≤ x * t → (a + b) * s ≤ y * t → n * x + u * y ≤ s * z → s * ((c * a + p * (a + b)) * s) ≤ s * (z * ((p + c) * t))
upper_step s t a b p c u n x y z whole most low high step =
    let h1 : (p + c) * t * (n * x + u * y) ≤ (p + c) * t * (s * z) = mul-le-mul_left ((p + c) * t) step in
    let h2 : n * (p + c) * (a * s) ≤ n * (p + c) * (x * t) = mul-le-mul_left (n * (p + c)) low in
    let h3 : u * (p + c) * ((a + b) * s) ≤ u * (p + c) * (y * t) = mul-le-mul_left (u * (p + c)) high in
    let h4 : s * ((p + c) * a * s) ≤ (n + u) * ((p + c) * a * s) = mul-le-mul_right ((p + c) * a * s) whole in
    let h5 : p * s * (b * s) ≤ u * (p + c) * (b * s) = mul-le-mul_right (b * s) most in
    omega arith

low_at : (s t a b p d l n x y z c k : ℕ) → 0 < s → p + c ≡ d → a + k ≡ b → n + l ≤ s → l * d ≤ p * s → x * t ≤ a * s → y * t ≤ b * s → s * z ≤ n * x + l * y → z * (d * t) ≤ (c * a + p * b) * s
low_at s t a b p d l n x y z c k pos ed eb whole least low high step =
    rw (← ed, ← eb) (le_of_mul-le-mul_left {k = s} (lower_step s t a k p c l n x y z whole (rw (← ed) at least) low (rw (← eb) at high) step) pos)

high_at : (s t a b p d u n x y z c k : ℕ) → 0 < s → p + c ≡ d → a + k ≡ b → s ≤ n + u → p * s ≤ u * d → a * s ≤ x * t → b * s ≤ y * t → n * x + u * y ≤ s * z → (c * a + p * b) * s ≤ z * (d * t)
high_at s t a b p d u n x y z c k pos ed eb whole most low high step =
    rw (← ed, ← eb) (le_of_mul-le-mul_left {k = s} (upper_step s t a k p c u n x y z whole (rw (← ed) at most) low (rw (← eb) at high) step) pos)

-- p out of d is the event's probability; of the parts, which hold a and b times out of t, s parts of the whole bound the frequency
pub low_step : (s t a b p d l n x y z : ℕ) → 0 < s → p ≤ d → a ≤ b → n + l ≤ s → l * d ≤ p * s → x * t ≤ a * s → y * t ≤ b * s → s * z ≤ n * x + l * y → z * (d * t) ≤ ((d - p) * a + p * b) * s
low_step s t a b p d l n x y z pos part more whole least low high step =
    low_at s t a b p d l n x y z (d - p) (b - a) pos (omega arith) (omega arith) whole least low high step

pub high_step : (s t a b p d u n x y z : ℕ) → 0 < s → p ≤ d → a ≤ b → s ≤ n + u → p * s ≤ u * d → a * s ≤ x * t → b * s ≤ y * t → n * x + u * y ≤ s * z → ((d - p) * a + p * b) * s ≤ z * (d * t)
high_step s t a b p d u n x y z pos part more whole most low high step =
    high_at s t a b p d u n x y z (d - p) (b - a) pos (omega arith) (omega arith) whole most low high step

-- an event that makes no difference
pub low_skip : (s t w d z : ℕ) → z * t ≤ w * s → z * (d * t) ≤ d * w * s
low_skip s t w d z low = let h : d * (z * t) ≤ d * (w * s) = mul-le-mul_left d low in omega arith

pub high_skip : (s t w d z : ℕ) → w * s ≤ z * t → d * w * s ≤ z * (d * t)
high_skip s t w d z high = let h : d * (w * s) ≤ d * (z * t) = mul-le-mul_left d high in omega arith

-- and where the bound is the whole at most: v is how often the node holds, out of d * t
pub high_node : (s t a b p d u n x y z v : ℕ) → 0 < s → p ≤ d → a ≤ b → s ≤ n + u → p * s ≤ u * d → a * s ≤ x * t → b * s ≤ y * t → min (s * s) (n * x + u * y) ≤ s * z → v ≤ d * t → v ≡ (d - p) * a + p * b → v * s ≤ z * (d * t)
high_node s t a b p d u n x y z v pos part more whole most low high step all is = at (cases_lt (n * x + u * y) (s * s))
  where
    at : (n * x + u * y < s * s) ⊎ (s * s ≤ n * x + u * y) → v * s ≤ z * (d * t)
    at (inl less) = rw is (high_step s t a b p d u n x y z pos part more whole most low high (omega arith))
    at (inr full) =
        let h : s * s ≤ s * z = omega arith in
        let i : s ≤ z = le_of_mul-le-mul_left {k = s} h pos in
        let j : v * s ≤ d * t * s = mul-le-mul_right s all in
        let k : d * t * s ≤ d * t * z = mul-le-mul_left (d * t) i in
        omega arith

-- a sum of two products, each rounded down, and one rounded down with the whole as bound
pub sum_down : (s a b x y r : ℕ) → s * x ≤ a → s * y ≤ b → r ≤ x + y → s * r ≤ a + b
sum_down s a b x y r ha hb hr = let h : s * r ≤ s * (x + y) = mul-le-mul_left s hr in omega arith

pub sum_up : (s a b x y r : ℕ) → min (s * s) a ≤ s * x → min (s * s) b ≤ s * y → min s (x + y) ≤ r → min (s * s) (a + b) ≤ s * r
sum_up s a b x y r ha hb hr = at (cases_lt (x + y) s)
  where
    at : (x + y < s) ⊎ (s ≤ x + y) → min (s * s) (a + b) ≤ s * r
    at (inl less) =
        let h1 : s * (x + 1) ≤ s * s = mul-le-mul_left s (omega arith) in
        let h2 : s * (y + 1) ≤ s * s = mul-le-mul_left s (omega arith) in
        let h3 : s * (x + y) ≤ s * r = mul-le-mul_left s (omega arith) in
        omega arith
    at (inr more) = let h : s * s ≤ s * r = mul-le-mul_left s (omega arith) in omega arith

-- and cut off at the whole
pub sum_within_up : (s n x r : ℕ) → min (s * s) n ≤ s * x → r ≡ min x s → min (s * s) n ≤ s * r
sum_within_up s n x r up same = at (cases_lt x s)
  where
    at : (x < s) ⊎ (s ≤ x) → min (s * s) n ≤ s * r
    at (inl less) = let e : r ≡ x = omega (arith, same) in subst (λ k. min (s * s) n ≤ s * k) (sym e) up
    at (inr more) = let e : r ≡ s = omega (arith, same) in subst (λ k. min (s * s) n ≤ s * k) (sym e) (omega arith)
