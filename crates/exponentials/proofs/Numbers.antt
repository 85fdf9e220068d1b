-- The steps of the series, in plain numbers.
use Rattle.std.proofs.Common.{ℕ, ◌+◌, ◌*◌, ◌^◌, ◌-◌, ◌≤◌, ◌<◌, ◌≡◌, min, ap, inl, inr, arith}
use Rattle.std.specs.Prelude.{◌⊎◌}
use Rattle.std.proofs.lemmas.Bool.{cases_lt}
use Rattle.std.proofs.Math.Nat.{mul-le-mul, mul-le-mul_left, mul-le-mul_right, le_of_mul-le-mul_left, pow-zero}

pub min_cases : (a b c : ℕ) → min a b ≤ c → (a ≤ c) ⊎ (b ≤ c)
min_cases a b c le = at (cases_lt a b)
  where
    at : (a < b) ⊎ (b ≤ a) → (a ≤ c) ⊎ (b ≤ c)
    at (inl less) = inl (omega arith)
    at (inr more) = inr (omega arith)

pub product_pos : (a b : ℕ) → 0 < a → 0 < b → 0 < a * b
product_pos a b ha hb = let h : 1 * 1 ≤ a * b = mul-le-mul ha hb in omega arith

-- r is one of c parts of q, which is s times below the product of t and x; A out of D and a out of b are no less than these
pub term_low : (s t x r c A D a b : ℕ) → 0 < s → s * (r * c) ≤ t * x → t * D ≤ A * s → x * b ≤ a * s → r * (D * (b * c)) ≤ A * a * s
term_low s t x r c A D a b pos step low least =
    let h1 : D * b * (s * (r * c)) ≤ D * b * (t * x) = mul-le-mul_left (D * b) step in
    let h2 : t * D * (x * b) ≤ A * s * (a * s) = mul-le-mul low least in
    le_of_mul-le-mul_left {k = s} (omega arith) pos

pub term_high : (s t x r c A D a b : ℕ) → 0 < s → min (s * s) (t * x) ≤ s * (r * c) → A * s ≤ t * D → a * s ≤ x * b → A ≤ D → a ≤ b → A * a * s ≤ r * (D * (b * c))
term_high s t x r c A D a b pos step high most one two = at (min_cases (s * s) (t * x) (s * (r * c)) step)
  where
    at : (s * s ≤ s * (r * c)) ⊎ (t * x ≤ s * (r * c)) → A * a * s ≤ r * (D * (b * c))
    at (inl top) =
        let h1 : s ≤ r * c = le_of_mul-le-mul_left {k = s} top pos in
        let h2 : A * a ≤ D * b = mul-le-mul one two in
        let h3 : A * a * s ≤ D * b * (r * c) = mul-le-mul h2 h1 in
        omega arith
    at (inr over) =
        let h1 : D * b * (t * x) ≤ D * b * (s * (r * c)) = mul-le-mul_left (D * b) over in
        let h2 : A * s * (a * s) ≤ t * D * (x * b) = mul-le-mul high most in
        le_of_mul-le-mul_left {k = s} (omega arith) pos

-- a sum u, widened by f, with t behind it
pub sum_low : (s u t r V A D f : ℕ) → r ≤ u + t → u * D ≤ V * s → t * (D * f) ≤ A * s → r * (D * f) ≤ (V * f + A) * s
sum_low s u t r V A D f step low term =
    let h1 : r * (D * f) ≤ (u + t) * (D * f) = mul-le-mul_right (D * f) step in
    let h2 : u * D * f ≤ V * s * f = mul-le-mul_right f low in
    omega arith

pub sum_high : (s u t r V A D f : ℕ) → min s (u + t) ≤ r → V * s ≤ u * D → A * s ≤ t * (D * f) → V * f + A ≤ D * f → (V * f + A) * s ≤ r * (D * f)
sum_high s u t r V A D f step high term few = at (min_cases s (u + t) r step)
  where
    at : (s ≤ r) ⊎ (u + t ≤ r) → (V * f + A) * s ≤ r * (D * f)
    at (inl top) = let h : (V * f + A) * s ≤ D * f * r = mul-le-mul few top in omega arith
    at (inr over) =
        let h1 : (u + t) * (D * f) ≤ r * (D * f) = mul-le-mul_right (D * f) over in
        let h2 : V * s * f ≤ u * D * f = mul-le-mul_right f high in
        omega arith

pub keep_low : (s u V D f : ℕ) → u * D ≤ V * s → u * (D * f) ≤ V * f * s
keep_low s u V D f low = let h : u * D * f ≤ V * s * f = mul-le-mul_right f low in omega arith

pub keep_high : (s u V D f : ℕ) → V * s ≤ u * D → V * f * s ≤ u * (D * f)
keep_high s u V D f high = let h : V * s * f ≤ u * D * f = mul-le-mul_right f high in omega arith

-- what is held within the whole
pub held_low : (s u V D : ℕ) → u * D ≤ V * s → min u s * D ≤ V * s
held_low s u V D low = let h : min u s * D ≤ u * D = mul-le-mul_right D (omega arith) in omega arith

pub held_high : (s u V D : ℕ) → V * s ≤ u * D → V ≤ D → V * s ≤ min u s * D
held_high s u V D high few = at (cases_lt u s)
  where
    at : (u < s) ⊎ (s ≤ u) → V * s ≤ min u s * D
    at (inl less) = let e : min u s ≡ u = omega arith in rw e high
    at (inr more) = let e : min u s ≡ s = omega arith in let h : V * s ≤ D * s = mul-le-mul_right s few in rw e (omega arith)

-- p is a lower bound of x times B, which is the whole without t and with u; O and E out of D are what these bound
pub series_low : (s x B t u p D E O a b d m : ℕ) → 0 < s → 0 < b → 0 < D → x * b ≤ a * s → B + t ≤ s + u → O * s ≤ t * D → u * D ≤ E * s → s * p ≤ x * B
    → a * (D + E) * d ≤ m * (b * D) + a * O * d → p * d ≤ m * s
series_low s x B t u p D E O a b d m ps pb pd least step taken added low chance =
    let g1 : (B + t) * D ≤ (s + u) * D = mul-le-mul_right D step in
    let g2 : a * d * (B * D + O * s) ≤ a * d * (s * (D + E)) = mul-le-mul_left (a * d) (omega arith) in
    let g3 : s * (a * (D + E) * d) ≤ s * (m * (b * D) + a * O * d) = mul-le-mul_left s chance in
    let g4 : a * d * (B * D) ≤ s * (m * (b * D)) = omega arith in
    let g5 : b * D * d * (s * p) ≤ b * D * d * (x * B) = mul-le-mul_left (b * D * d) low in
    let g6 : B * D * d * (x * b) ≤ B * D * d * (a * s) = mul-le-mul_left (B * D * d) least in
    let g7 : s * (a * d * (B * D)) ≤ s * (s * (m * (b * D))) = mul-le-mul_left s g4 in
    le_of_mul-le-mul_left {k = s * (b * D)} (omega arith) (product_pos s (b * D) ps (product_pos b D pb pd))

-- and an upper one
pub series_high : (s x B t u p D E O a b d m : ℕ) → 0 < s → 0 < b → 0 < D → a * s ≤ x * b → min (s + t) (s + u) ≤ B + t → t * D ≤ O * s → E * s ≤ u * D
    → min (s * s) (x * B) ≤ s * p → m ≤ d → m * b ≤ a * d → m * (b * D) + a * O * d ≤ a * (D + E) * d → m * s ≤ p * d
series_high s x B t u p D E O a b d m ps pb pd most step taken added high part first chance = at (min_cases (s * s) (x * B) (s * p) high)
  where
    inside : x * B ≤ s * p → (s + t ≤ B + t) ⊎ (s + u ≤ B + t) → m * s ≤ p * d
    inside over (inl top) =
        let g1 : s * (m * b) ≤ s * (a * d) = mul-le-mul_left s first in
        let g2 : d * (a * s) ≤ d * (x * b) = mul-le-mul_left d most in
        let g3 : m * s ≤ x * d = le_of_mul-le-mul_left {k = b} (omega arith) pb in
        let g4 : s * (m * s) ≤ s * (x * d) = mul-le-mul_left s g3 in
        let g5 : x * d * s ≤ x * d * B = mul-le-mul_left (x * d) (omega arith) in
        let g6 : d * (x * B) ≤ d * (s * p) = mul-le-mul_left d over in
        le_of_mul-le-mul_left {k = s} (omega arith) ps
    inside over (inr rest) =
        let g1 : (s + u) * D ≤ (B + t) * D = mul-le-mul_right D rest in
        let g2 : a * d * (s * (D + E)) ≤ a * d * (B * D + O * s) = mul-le-mul_left (a * d) (omega arith) in
        let g3 : s * (m * (b * D) + a * O * d) ≤ s * (a * (D + E) * d) = mul-le-mul_left s chance in
        let g4 : s * (m * (b * D)) ≤ a * d * (B * D) = omega arith in
        let g5 : b * D * d * (x * B) ≤ b * D * d * (s * p) = mul-le-mul_left (b * D * d) over in
        let g6 : B * D * d * (a * s) ≤ B * D * d * (x * b) = mul-le-mul_left (B * D * d) most in
        let g7 : s * (s * (m * (b * D))) ≤ s * (a * d * (B * D)) = mul-le-mul_left s g4 in
        le_of_mul-le-mul_left {k = s * (b * D)} (omega arith) (product_pos s (b * D) ps (product_pos b D pb pd))

    at : (s * s ≤ s * p) ⊎ (x * B ≤ s * p) → m * s ≤ p * d
    at (inl top) =
        let h1 : s ≤ p = le_of_mul-le-mul_left {k = s} top ps in
        let h2 : m * s ≤ d * p = mul-le-mul part h1 in
        omega arith
    at (inr over) = inside over (min_cases (s + t) (s + u) (B + t) step)

-- what is left of the whole
pub rest_low : (s n d h r : ℕ) → n * s ≤ h * d → r + h ≤ s → n ≤ d → r * d ≤ (d - n) * s
rest_low s n d h r high step part =
    let g : (r + h) * d ≤ s * d = mul-le-mul_right d step in
    by (d - n) (omega arith)
  where
    by : (c : ℕ) → n + c ≡ d → r * d ≤ c * s
    by c e =
        let g : (r + h) * d ≤ s * d = mul-le-mul_right d step in
        let f : (n + c) * s ≡ d * s = ap (λ k. k * s) e in
        omega arith

pub rest_high : (s n d l r : ℕ) → l * d ≤ n * s → s ≤ r + l → n ≤ d → (d - n) * s ≤ r * d
rest_high s n d l r low step part = by (d - n) (omega arith)
  where
    by : (c : ℕ) → n + c ≡ d → c * s ≤ r * d
    by c e =
        let g : s * d ≤ (r + l) * d = mul-le-mul_right d step in
        let f : (n + c) * s ≡ d * s = ap (λ k. k * s) e in
        omega arith

-- a square
pub square_low : (s q r n d : ℕ) → 0 < s → s * r ≤ q * q → q * d ≤ n * s → r * (d * d) ≤ n * n * s
square_low s q r n d pos step low =
    let h1 : d * d * (s * r) ≤ d * d * (q * q) = mul-le-mul_left (d * d) step in
    let h2 : q * d * (q * d) ≤ n * s * (n * s) = mul-le-mul low low in
    le_of_mul-le-mul_left {k = s} (omega arith) pos

pub square_high : (s q r n d : ℕ) → 0 < s → min (s * s) (q * q) ≤ s * r → n * s ≤ q * d → n ≤ d → n * n * s ≤ r * (d * d)
square_high s q r n d pos step high part = at (min_cases (s * s) (q * q) (s * r) step)
  where
    at : (s * s ≤ s * r) ⊎ (q * q ≤ s * r) → n * n * s ≤ r * (d * d)
    at (inl top) =
        let h1 : s ≤ r = le_of_mul-le-mul_left {k = s} top pos in
        let h2 : n * n ≤ d * d = mul-le-mul part part in
        let h3 : n * n * s ≤ d * d * r = mul-le-mul h2 h1 in
        omega arith
    at (inr over) =
        let h1 : d * d * (q * q) ≤ d * d * (s * r) = mul-le-mul_left (d * d) over in
        let h2 : n * s * (n * s) ≤ q * d * (q * d) = mul-le-mul high high in
        le_of_mul-le-mul_left {k = s} (omega arith) pos

-- a power of none
pub none_power : (a : ℕ) → a ^ 0 ≡ 1
none_power a = pow-zero a
