-- Sums of decimals, and what is left of the whole.
use Rattle.std.proofs.Common.{ℕ, refl, sym, ◌+◌, ◌-◌, ◌*◌, ◌^◌, ◌≤◌, ◌<◌, ◌≡◌, min, inl, inr, ap, arith}
use Rattle.std.specs.Prelude.{◌⊎◌}
use Rattle.std.proofs.lemmas.Bool.{cases_lt}
use Rattle.std.proofs.Math.Nat.{mul-le-mul, mul-le-mul_right, le_of_mul-le-mul_left}
use Rattle.decimals.specs.declared.rounding.Side.{Side}
use Rattle.decimals.specs.Decimals.{HavePlaces}
use Rattle.decimals.specs.inner.Decimals.{IsCut, opposite}
use Rattle.decimals.specs.inner.Aligned.{IsAligned}
use Rattle.decimals.proofs.Powers.{ten_pos, ten_none, ten_sum, most_power, above_whole}
use Rattle.decimals.proofs.Cuts.{cut_same, cut_exact, cut_one, cut_times, cut_plus, cut_left}

-- a short number is exact
pub aligned_exact : (side : Side) (n m e : ℕ) → m ≤ 1000000000000000000 → n ≡ m * 10 ^ e → IsAligned side n record { number = m; exponent = e }
aligned_exact side n m e short exact = record {
  short = omega arith;
  cut = cut_exact side n m (10 ^ e) (ten_pos e) exact;
  full = inl exact;
}

-- nothing is added
pub no_other : (n i m j : ℕ) → n ≡ 0 → n * 10 ^ i + m * 10 ^ j ≡ m * 10 ^ j
no_other n i m j none = let e : n * 10 ^ i ≡ 0 * 10 ^ i = ap (λ t. t * 10 ^ i) none in omega arith

-- h at exponent i and n at exponent j, where the first is lifted by t and the second is cut to r
pub sum_cut : (side : Side) (h i n j t g r : ℕ) → j + g ≡ i → t ≤ g → IsCut side n r (10 ^ (g - t)) → IsCut side (h * 10 ^ i + n * 10 ^ j) (h * 10 ^ t + r) (10 ^ (i - t))
sum_cut side h i n j t g r ij tg cut =
    let p = ten_sum i t (i - t) (omega arith) in
    let q = ten_sum (i - t) (g - t) j (omega arith) in
    let b : h * 10 ^ i ≡ h * (10 ^ t * 10 ^ (i - t)) = ap (λ k. h * k) p in
    let f : IsCut side (n * 10 ^ j) r (10 ^ (i - t)) = cut_same side refl refl (sym q) (cut_times side n r (10 ^ (g - t)) (10 ^ j) (ten_pos j) cut) in
    cut_same side (omega arith) refl refl (cut_plus side (h * 10 ^ t) (n * 10 ^ j) r (10 ^ (i - t)) f)

-- all places are there, or the number is long
pub sum_full : (side : Side) (h i n j t g r : ℕ) → j + g ≡ i → t ≡ min g 18 → 0 < h → IsCut side n r (10 ^ (g - t)) → (h * 10 ^ i + n * 10 ^ j ≡ (h * 10 ^ t + r) * 10 ^ (i - t)) ⊎ (1000000000000000000 ≤ h * 10 ^ t + r)
sum_full side h i n j t g r ij lift pos cut = at (cases_lt 18 g)
  where
    at : (18 < g) ⊎ (g ≤ 18) → (h * 10 ^ i + n * 10 ^ j ≡ (h * 10 ^ t + r) * 10 ^ (i - t)) ⊎ (1000000000000000000 ≤ h * 10 ^ t + r)
    at (inl long) =
        let a : 1 * 10 ^ 18 ≤ h * 10 ^ 18 = mul-le-mul_right {m = 1} {n = h} (10 ^ 18) (omega arith) in
        let is : t ≡ 18 = omega arith in
        let b : h * 10 ^ t ≡ h * 10 ^ 18 = ap (λ k. h * 10 ^ k) is in
        inr (omega arith)
    at (inr short) =
        let same = cut_one side n r (10 ^ (g - t)) (ten_none (g - t) (omega arith)) cut in
        let p = ten_sum i t (i - t) (omega arith) in
        let b : h * 10 ^ i ≡ h * (10 ^ t * 10 ^ (i - t)) = ap (λ k. h * k) p in
        let c : r * 10 ^ (i - t) ≡ r * 10 ^ j = ap (λ k. r * 10 ^ k) (omega arith) in
        let d : r * 10 ^ j ≡ n * 10 ^ j = ap (λ k. k * 10 ^ j) same in
        inl (omega arith)

pub short_sum : (h t r : ℕ) → h ≤ 1000000000000000000 → t ≤ 18 → r ≤ 1000000000000000000 → h * 10 ^ t + r ≤ 2000000000000000000000000000000000000
short_sum h t r hh ht hr =
    let a : h * 10 ^ t ≤ 1000000000000000000 * 1000000000000000000 = mul-le-mul hh (most_power t ht) in
    omega arith

-- the exponent of a sum lies between the two
pub places_sum : (w p i n j t s : ℕ) → 0 < n → j + t ≤ i → HavePlaces w p n j → HavePlaces w p s (i - t)
places_sum w p i n j t s some fit (inl none) = absurd (omega arith)
places_sum w p i n j t s some fit (inr many) = inr (omega arith)

-- a mantissa within the whole has no more zeros behind it
pub few_zeros : (m e w : ℕ) → 0 < m → m * 10 ^ e ≤ 10 ^ w → e ≤ w
few_zeros m e w pos most = at (cases_lt w e)
  where
    at : (w < e) ⊎ (e ≤ w) → e ≤ w
    at (inr le) = le
    at (inl over) = let h = above_whole m e w pos over in let z = ten_pos w in absurd (omega arith)

-- of a part m at exponent e, with g zeros to the whole w, of which t are lifted, cut to p: it fits, and n is left
pub left_fits : (side : Side) (m p e w g t : ℕ) → e + g ≡ w → t ≡ min g 36 → m * 10 ^ e ≤ 10 ^ w → p ≤ 1000000000000000000 → IsCut side m p (10 ^ (g - t)) → p ≤ 10 ^ t
left_fits side m p e w g t eg lift most few cut = at (cases_lt 36 g)
  where
    at : (36 < g) ⊎ (g ≤ 36) → p ≤ 10 ^ t
    at (inl long) = let is : t ≡ 36 = omega arith in rw is (omega arith)
    at (inr short) =
        let is : g ≡ t = omega arith in
        let same = cut_one side m p (10 ^ (g - t)) (ten_none (g - t) (omega arith)) cut in
        let h : 10 ^ e * m ≤ 10 ^ e * 10 ^ g = let q = ten_sum w e g eg in omega arith in
        let k : m ≤ 10 ^ g = le_of_mul-le-mul_left {k = 10 ^ e} h (ten_pos e) in
        let l = rw is at k in
        omega arith

pub left_cut : (side : Side) (m p e w g t n : ℕ) → e + g ≡ w → t ≤ g → m * 10 ^ e ≤ 10 ^ w → n + p ≡ 10 ^ t → IsCut (opposite side) m p (10 ^ (g - t)) → IsCut side (10 ^ w - m * 10 ^ e) n (10 ^ (w - t))
left_cut side m p e w g t n eg tg most np cut =
    let a = ten_sum w t (w - t) (omega arith) in
    let b = ten_sum (w - t) (g - t) e (omega arith) in
    let f : IsCut (opposite side) (m * 10 ^ e) p (10 ^ (w - t)) = cut_same (opposite side) refl refl (sym b) (cut_times (opposite side) m p (10 ^ (g - t)) (10 ^ e) (ten_pos e) cut) in
    rw a (cut_left side (10 ^ t) (m * 10 ^ e) p n (10 ^ (w - t)) np (omega arith) f)

pub left_full : (side : Side) (m p e w g t n : ℕ) → e + g ≡ w → t ≡ min g 36 → p ≤ 1000000000000000000 → n + p ≡ 10 ^ t → IsCut side m p (10 ^ (g - t)) → (10 ^ w - m * 10 ^ e ≡ n * 10 ^ (w - t)) ⊎ (1000000000000000000 ≤ n)
left_full side m p e w g t n eg lift few np cut = at (cases_lt 36 g)
  where
    at : (36 < g) ⊎ (g ≤ 36) → (10 ^ w - m * 10 ^ e ≡ n * 10 ^ (w - t)) ⊎ (1000000000000000000 ≤ n)
    at (inl long) = let is : t ≡ 36 = omega arith in let k = rw is at np in inr (omega arith)
    at (inr short) =
        let same = cut_one side m p (10 ^ (g - t)) (ten_none (g - t) (omega arith)) cut in
        let a = ten_sum w t (w - t) (omega arith) in
        let f : (n + p) * 10 ^ (w - t) ≡ 10 ^ t * 10 ^ (w - t) = ap (λ k. k * 10 ^ (w - t)) np in
        let j : p * 10 ^ (w - t) ≡ p * 10 ^ e = ap (λ k. p * 10 ^ k) (omega arith) in
        let k : p * 10 ^ e ≡ m * 10 ^ e = ap (λ k. k * 10 ^ e) same in
        inl (omega arith)
