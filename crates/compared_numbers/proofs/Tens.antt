-- Powers of ten.
use Rattle.std.proofs.Common.{ℕ, ◌+◌, ◌*◌, ◌^◌, ◌≤◌, ◌<◌, ◌≡◌, ◌∙◌, sym, ap, subst, arith}
use Rattle.std.specs.Prelude.{◌↔◌, ◌-◌}
use Rattle.std.proofs.lemmas.Nat.{pow-add}
use Rattle.std.proofs.Math.Nat.{one-le-pow, pow-le-pow_right, mul-le-mul_right, lt_of_mul-lt-mul_right, mul-lt-mul_of_pos_right}

pub ten_pos : (k : ℕ) → 0 < 10 ^ k
ten_pos k = let h = one-le-pow k 10 (omega arith) in omega arith

pub small_power : (k : ℕ) → k < 18 → 10 ^ k * 10 ≤ 1000000000000000000
small_power k h =
    let a : 10 ^ (k + 1) ≤ 10 ^ 18 = pow-le-pow_right {n = 10} (omega arith) {i = k + 1} {j = 18} (omega arith) in
    let b = pow-add 10 k 1 in
    omega arith

pub most_power : (k : ℕ) → k ≤ 18 → 10 ^ k ≤ 1000000000000000000
most_power k h = let a : 10 ^ k ≤ 10 ^ 18 = pow-le-pow_right {n = 10} (omega arith) {i = k} {j = 18} (omega arith) in omega arith

-- digits with more zeros than 18 are more than 18 zeros
pub great : (m k : ℕ) → 0 < m → 18 < k → 1000000000000000000 < m * 10 ^ k
great m k some many =
    let a : 10 ^ 19 ≤ 10 ^ k = pow-le-pow_right {n = 10} (omega arith) {i = 19} {j = k} (omega arith) in
    let b : 1 * 10 ^ k ≤ m * 10 ^ k = mul-le-mul_right (10 ^ k) (omega arith) in
    omega arith

-- zeros that both have change nothing
pub both_zeros : (a b k : ℕ) → (a * 10 ^ k < b * 10 ^ k) ↔ (a < b)
both_zeros a b k = (lt_of_mul-lt-mul_right (10 ^ k), λ less. mul-lt-mul_of_pos_right less (ten_pos k))

pub split : (m d b : ℕ) → m * 10 ^ (d + b) ≡ m * 10 ^ d * 10 ^ b
split m d b = let p = pow-add 10 d b in ap (λ t. m * t) p ∙ omega arith

gap : (more less : ℕ) → less ≤ more → more ≡ more - less + less
gap more less h = omega arith

-- ---- what `is_less` looks at

pub none_less : (one first other second : ℕ) → other ≡ 0 → one * 10 ^ first < other * 10 ^ second → ⊥
none_less one first other second none h = let z : other * 10 ^ second ≡ 0 * 10 ^ second = ap (λ t. t * 10 ^ second) none in omega arith

pub some_more : (one first other second : ℕ) → one ≡ 0 → 0 < other → one * 10 ^ first < other * 10 ^ second
some_more one first other second none some =
    let z : one * 10 ^ first ≡ 0 * 10 ^ first = ap (λ t. t * 10 ^ first) none in
    let t = ten_pos second in
    let p : 1 * 10 ^ second ≤ other * 10 ^ second = mul-le-mul_right (10 ^ second) (omega arith) in
    omega arith

pub left_zeros : (one first other second : ℕ) → second ≤ first → (one * 10 ^ (first - second) < other) ↔ (one * 10 ^ first < other * 10 ^ second)
left_zeros one first other second over =
    let s : one * 10 ^ first ≡ one * 10 ^ (first - second) * 10 ^ second = ap (λ t. one * 10 ^ t) (gap first second over) ∙ split one (first - second) second in
    let both = both_zeros (one * 10 ^ (first - second)) other second in
    ((λ h. subst (λ (t : ℕ). t < other * 10 ^ second) (sym s) (both.1 h)), λ h. both.0 (subst (λ (t : ℕ). t < other * 10 ^ second) s h))

pub right_zeros : (one first other second : ℕ) → first ≤ second → (one < other * 10 ^ (second - first)) ↔ (one * 10 ^ first < other * 10 ^ second)
right_zeros one first other second under =
    let s : other * 10 ^ second ≡ other * 10 ^ (second - first) * 10 ^ first = ap (λ t. other * 10 ^ t) (gap second first under) ∙ split other (second - first) first in
    let both = both_zeros one (other * 10 ^ (second - first)) first in
    ((λ h. subst (λ (t : ℕ). one * 10 ^ first < t) (sym s) (both.1 h)), λ h. both.0 (subst (λ (t : ℕ). one * 10 ^ first < t) s h))
