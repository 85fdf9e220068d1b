-- Numbers that are rounded to so many of a part.
use Rattle.std.proofs.Common.{ℕ, zero, suc, ◌+◌, ◌-◌, ◌*◌, ◌^◌, ◌/◌, ◌%◌, min, ◌≤◌, ◌<◌, ◌≡◌, inl, inr, ap, arith}
use Rattle.std.specs.Prelude.{◌⊎◌}
use Rattle.std.proofs.Math.Nat.{mul-le-mul_left, mul-le-mul_right, lt-div-mul-add}
use Rattle.std.proofs.lemmas.Grind.{div_ceil_times}
use Rattle.decimals.specs.declared.rounding.Side.{Side}
use Rattle.decimals.specs.declared.rounding.Side.TheVariants.{Down, Up}
use Rattle.decimals.specs.declared.rounding.Shortened.{Shortened}
use Rattle.decimals.proofs.Powers.{ten_none}
use Rattle.decimals.specs.inner.Decimals.{IsCut, IsShortened, IsNear, opposite, least, long}

pub cut_same : (side : Side) {n a m b s t : ℕ} → n ≡ a → m ≡ b → s ≡ t → IsCut side n m s → IsCut side a b t
cut_same Down en em es cut = rw (← en, ← em, ← es) cut
cut_same Up en em es cut = rw (← en, ← em, ← es) cut

-- nothing is dropped
pub cut_exact : (side : Side) (n m s : ℕ) → 0 < s → n ≡ m * s → IsCut side n m s
cut_exact Down n m s pos exact = (omega arith, omega arith)
cut_exact Up n m s pos exact = (omega arith, omega arith)

pub cut_one : (side : Side) (n m s : ℕ) → s ≡ 1 → IsCut side n m s → m ≡ n
cut_one Down n m s one cut = let a = rw one at cut.0 in let b = rw one at cut.1 in omega arith
cut_one Up n m s one cut = let a = rw one at cut.0 in let b = rw one at cut.1 in omega arith

-- cut once more
pub cut_more : (side : Side) (n m r s t : ℕ) → IsCut side n m s → IsCut side m r t → IsCut side n r (s * t)
cut_more Down n m r s t first second =
    let p : r * t * s ≤ m * s = mul-le-mul_right s second.0 in
    let q : (m + 1) * s ≤ (r + 1) * t * s = mul-le-mul_right s (omega (arith, second.1)) in
    (omega (arith, first.0), omega (arith, first.1))
cut_more Up n m r s t first second =
    let p : m * s ≤ r * t * s = mul-le-mul_right s second.0 in
    let q : (r * t + 1) * s ≤ (m + t) * s = mul-le-mul_right s (omega (arith, second.1)) in
    (omega (arith, first.0), omega (arith, first.1))

-- number and part as often
pub cut_times : (side : Side) (n m s t : ℕ) → 0 < t → IsCut side n m s → IsCut side (n * t) m (s * t)
cut_times Down n m s t pos cut =
    let p : m * s * t ≤ n * t = mul-le-mul_right t cut.0 in
    let q : (n + 1) * t ≤ (m + 1) * s * t = mul-le-mul_right t (omega (arith, cut.1)) in
    (omega arith, omega arith)
cut_times Up n m s t pos cut =
    let p : n * t ≤ m * s * t = mul-le-mul_right t cut.0 in
    let q : (m * s + 1) * t ≤ (n + s) * t = mul-le-mul_right t (omega (arith, cut.1)) in
    (omega arith, omega arith)

-- with whole parts added
pub cut_plus : (side : Side) (h n m s : ℕ) → IsCut side n m s → IsCut side (h * s + n) (h + m) s
cut_plus Down h n m s cut = (omega (arith, cut.0), omega (arith, cut.1))
cut_plus Up h n m s cut = (omega (arith, cut.0), omega (arith, cut.1))

-- taken from whole parts
pub cut_left : (side : Side) (q n p r s : ℕ) → r + p ≡ q → n ≤ q * s → IsCut (opposite side) n p s → IsCut side (q * s - n) r s
cut_left Down q n p r s rest fits cut = let e : (r + p) * s ≡ q * s = ap (λ t. t * s) rest in (omega (arith, cut.0), omega (arith, cut.1))
cut_left Up q n p r s rest fits cut = let e : (r + p) * s ≡ q * s = ap (λ t. t * s) rest in (omega (arith, cut.0), omega (arith, cut.1))

pub cut_few : (side : Side) (n m s : ℕ) → 0 < s → IsCut side n m s → m ≤ n
cut_few Down n m s pos cut = let h : m * 1 ≤ m * s = mul-le-mul_left m pos in omega (arith, cut.0)
cut_few Up n zero s pos cut = omega arith
cut_few Up n (suc m) s pos cut = let h : m * 1 ≤ m * s = mul-le-mul_left m pos in omega (arith, cut.1)

-- nothing is left of nothing
pub cut_none : (side : Side) (n m s : ℕ) → 0 < s → n ≡ 0 → IsCut side n m s → m ≡ 0
cut_none side n m s pos none cut = let h = cut_few side n m s pos cut in omega arith

-- too little for one part
pub cut_little : (side : Side) (n s : ℕ) → 0 < n → n < s → IsCut side n (least side 1) s
cut_little Down n s some few = (omega arith, omega arith)
cut_little Up n s some few = (omega arith, omega arith)

-- one digit less
pub long_tenth : (side : Side) (n m : ℕ) → 1000000000000000000 < n → IsCut side n m 10 → long side ≤ m
long_tenth Down n m many cut = omega (arith, cut.1)
long_tenth Up n m many cut = omega (arith, cut.0)

-- after all digits
pub short_cut : (side : Side) (n m s : ℕ) → n ≤ 2000000000000000000000000000000000000 → s ≡ 10000000000000000000 → IsCut side n m s → m ≤ 1000000000000000000
short_cut Down n m s few all cut = let h = rw all at cut.0 in omega arith
short_cut Up n m s few all cut = let h = rw all at cut.1 in omega arith

-- by division
pub cut_quotient : (n s : ℕ) → 0 < s → IsCut Down n (n / s) s
cut_quotient n s pos = let h = lt-div-mul-add {a = n} {b = s} pos in (omega arith, omega arith)

pub cut_ceiling : (n m s : ℕ) → 0 < s → m ≡ n / s + min 1 (n % s) → IsCut Up n m s
cut_ceiling n m s pos is = rw is (div_ceil_times n s pos)

-- the greater and the less of a number and what it is rounded to
abbrev pub IsNearTo : Side → ℕ → ℕ → Type 0
IsNearTo Down n m = IsNear n m
IsNearTo Up n m = IsNear m n

pub near_cut : (side : Side) (n m s : ℕ) → (n ≡ m * s) ⊎ (long side ≤ m) → IsCut side n m s → IsNearTo side n (m * s)
near_cut Down n m s (inl exact) cut = omega arith
near_cut Up n m s (inl exact) cut = omega arith
near_cut Down n m s (inr many) cut = let h : 100000000000000000 * s ≤ m * s = mul-le-mul_right s many in omega (arith, cut.1)
near_cut Up n m s (inr many) cut = let h : 100000000000000001 * s ≤ m * s = mul-le-mul_right s many in omega (arith, cut.1)

-- what is long or exact stays near without its last digits
pub near_shortened : (side : Side) (n q s : ℕ) (x : Shortened) → (n ≡ q * s) ⊎ (1000000000000000000 ≤ q) → IsCut side n q s → IsShortened side q x → IsNearTo side n (x.mantissa * (s * 10 ^ x.dropped))
near_shortened side n q s x kept first is = near_cut side n x.mantissa (s * 10 ^ x.dropped) (at kept is.full) (cut_more side n q x.mantissa s (10 ^ x.dropped) first is.cut)
  where
    many : (side : Side) → 1000000000000000000 ≤ q → x.mantissa ≡ q → long side ≤ x.mantissa
    many Down all same = omega arith
    many Up all same = omega arith

    at : (n ≡ q * s) ⊎ (1000000000000000000 ≤ q) → (x.dropped ≡ 0) ⊎ (long side ≤ x.mantissa) → (n ≡ x.mantissa * (s * 10 ^ x.dropped)) ⊎ (long side ≤ x.mantissa)
    at any (inr full) = inr full
    at (inr all) (inl none) = inr (many side all (cut_one side q x.mantissa (10 ^ x.dropped) (ten_none x.dropped none) is.cut))
    at (inl exact) (inl none) =
        let one = ten_none x.dropped none in
        let e : x.mantissa * s ≡ q * s = ap (λ k. k * s) (cut_one side q x.mantissa (10 ^ x.dropped) one is.cut) in
        let f : x.mantissa * (s * 10 ^ x.dropped) ≡ x.mantissa * (s * 1) = ap (λ k. x.mantissa * (s * k)) one in
        inl (omega arith)
