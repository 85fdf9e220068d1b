-- Powers of ten.
use Rattle.std.proofs.Common.{ℕ, ◌+◌, ◌*◌, ◌^◌, ◌≤◌, ◌<◌, ◌≡◌, ◌∙◌, sym, ap, arith}
use Rattle.std.proofs.lemmas.Nat.{pow-add}
use Rattle.std.proofs.Math.Nat.{one-le-pow, pow-le-pow_right, mul-le-mul_right, mul-le-mul}

pub ten_pos : (k : ℕ) → 0 < 10 ^ k
ten_pos k = let h = one-le-pow k 10 (omega arith) in omega arith

pub ten_sum : (k i j : ℕ) → i + j ≡ k → 10 ^ k ≡ 10 ^ i * 10 ^ j
ten_sum k i j e = ap (λ t. 10 ^ t) (sym e) ∙ pow-add 10 i j

pub ten_none : (k : ℕ) → k ≡ 0 → 10 ^ k ≡ 1
ten_none k none = ap (λ t. 10 ^ t) none

pub small_power : (k : ℕ) → k < 18 → 10 ^ k * 10 ≤ 1000000000000000000
small_power k h =
    let a : 10 ^ (k + 1) ≤ 10 ^ 18 = pow-le-pow_right {n = 10} (omega arith) {i = k + 1} {j = 18} (omega arith) in
    let b = pow-add 10 k 1 in
    omega arith

pub great_power : (k : ℕ) → 18 < k → 1000000000000000000 < 10 ^ k
great_power k h = let a : 10 ^ 19 ≤ 10 ^ k = pow-le-pow_right {n = 10} (omega arith) {i = 19} {j = k} (omega arith) in omega arith

pub most_power : (k : ℕ) → k ≤ 18 → 10 ^ k ≤ 1000000000000000000
most_power k h = let a : 10 ^ k ≤ 10 ^ 18 = pow-le-pow_right {n = 10} (omega arith) {i = k} {j = 18} (omega arith) in omega arith

pub wide_most : (a b : ℕ) → a ≤ 18 → b ≤ 18 → 10 ^ a * 10 ^ b ≤ 1000000000000000000000000000000000000
wide_most a b ha hb = let h : 10 ^ a * 10 ^ b ≤ 1000000000000000000 * 1000000000000000000 = mul-le-mul (most_power a ha) (most_power b hb) in omega arith

-- some parts with more zeros than the whole are ten times the whole at least
pub above_whole : (m e w : ℕ) → 0 < m → w < e → 10 ^ w * 10 ≤ m * 10 ^ e
above_whole m e w pos over =
    let p : 10 ^ (w + 1) ≤ 10 ^ e = pow-le-pow_right {n = 10} (omega arith) {i = w + 1} {j = e} (omega arith) in
    let q : 10 ^ (w + 1) ≡ 10 ^ w * 10 = pow-add 10 w 1 in
    let r : 1 * 10 ^ e ≤ m * 10 ^ e = mul-le-mul_right (10 ^ e) (omega arith) in
    omega arith
