use Rattle.std.proofs.Common.{ℕ, ◌+◌, ◌-◌, ◌*◌, ◌^◌, ◌≤◌, ◌<◌, ◌≡◌, ◌∙◌, ap, refl, inl, inr, arith}
use Rattle.std.specs.Prelude.{◌⊎◌}
use Rattle.decimals.specs.declared.rounding.Side.{Side}
use Rattle.decimals.specs.declared.rounding.Side.TheVariants.{Down, Up}
use Rattle.decimals.specs.declared.rounding.Shortened.{Shortened}
use Rattle.decimals.specs.Decimals.{parts, HavePlaces}
use Rattle.decimals.specs.inner.Decimals.{least, IsCut, IsShortened, IsBound, IsNearBound}
use Rattle.decimals.proofs.Powers.{ten_pos, ten_sum}
use Rattle.decimals.proofs.Cuts.{IsNearTo, cut_more, cut_exact, cut_none, near_shortened}
use Rattle.decimals.proofs.Bounds.{bound_held, near_held}
use Rattle.std.proofs.Math.Nat.{mul-le-mul, mul-le-mul_left}
use Rattle.decimals.proofs.arithmetic.product.Goals as goal

short_product : (a b : ℕ) → a ≤ 1000000000000000000 → b ≤ 1000000000000000000 → a * b ≤ 2000000000000000000000000000000000000
short_product a b ha hb = let h : a * b ≤ 1000000000000000000 * 1000000000000000000 = mul-le-mul ha hb in omega arith

pub shortened-short-requires : goal.shortened-short-requires
shortened-short-requires c = short_product c.args.one.mantissa c.args.other.mantissa c.args.one.short c.args.other.short

-- the parts of a product
parts_cut : (side : Side) (a i b j : ℕ) → IsCut side (a * 10 ^ i * (b * 10 ^ j)) (a * b) (10 ^ (i + j))
parts_cut side a i b j =
    let e = ten_sum (i + j) i j refl in
    let h : a * b * 10 ^ (i + j) ≡ a * b * (10 ^ i * 10 ^ j) = ap (λ t. a * b * t) e in
    cut_exact side (a * 10 ^ i * (b * 10 ^ j)) (a * b) (10 ^ (i + j)) (ten_pos (i + j)) (omega arith)

product_cut : (side : Side) (a i b j : ℕ) (x : Shortened) → IsShortened side (a * b) x → IsCut side (a * 10 ^ i * (b * 10 ^ j)) x.mantissa (10 ^ (i + j) * 10 ^ x.dropped)
product_cut side a i b j x is = cut_more side (a * 10 ^ i * (b * 10 ^ j)) (a * b) x.mantissa (10 ^ (i + j)) (10 ^ x.dropped) (parts_cut side a i b j) is.cut

product_near : (side : Side) (a i b j : ℕ) (x : Shortened) → IsShortened side (a * b) x → IsNearTo side (a * 10 ^ i * (b * 10 ^ j)) (x.mantissa * (10 ^ (i + j) * 10 ^ x.dropped))
product_near side a i b j x is =
    let e = ten_sum (i + j) i j refl in
    let h : a * b * 10 ^ (i + j) ≡ a * b * (10 ^ i * 10 ^ j) = ap (λ t. a * b * t) e in
    near_shortened side (a * 10 ^ i * (b * 10 ^ j)) (a * b) (10 ^ (i + j)) x (inl (omega arith)) (parts_cut side a i b j) is

-- what is too little for the scale, without its exponent
little_bound : (side : Side) (x m s k w top : ℕ) → s + k < w → IsCut side x m (10 ^ s * 10 ^ k) → IsBound side top x (10 ^ w * (least side m * 10 ^ 0))
little_bound Down x m s k w top less cut = omega arith
little_bound Up x m s k w top less cut =
    let e = ten_sum w (s + k) (w - (s + k)) (omega arith) in
    let f = ten_sum (s + k) s k refl in
    let g : m * (10 ^ (s + k) * 1) ≤ m * (10 ^ (s + k) * 10 ^ (w - (s + k))) = mul-le-mul_left m (mul-le-mul_left (10 ^ (s + k)) (ten_pos (w - (s + k)))) in
    let h : m * 10 ^ (s + k) ≡ m * (10 ^ s * 10 ^ k) = ap (λ t. m * t) f in
    let i : m * 10 ^ w ≡ m * (10 ^ (s + k) * 10 ^ (w - (s + k))) = ap (λ t. m * t) e in
    omega (arith, cut.0)

pub returns-then-total-whole-clause-bound : goal.returns-then-total-whole-clause-bound
returns-then-total-whole-clause-bound c =
    let a = c.args.one in
    let b = c.args.other in
    let x = c.shortened-short in
    rw c.least.ensures
    (little_bound c.args.side (parts a * parts b) x.result.mantissa (a.exponent + b.exponent) x.result.dropped c.args.whole _ (omega arith) (product_cut c.args.side a.mantissa a.exponent b.mantissa b.exponent x.result x.ensures))

-- the places of two factors
factors : (w p q a i b j : ℕ) → HavePlaces w p a i → HavePlaces w q b j → p + q ≤ w → (a * b ≡ 0) ⊎ (w + w ≤ i + j + (p + q))
factors w p q a i b j (inl none) second fit = let h : a * b ≡ 0 * b = ap (λ t. t * b) none in inl (omega arith)
factors w p q a i b j (inr one) (inl none) fit = let h : a * b ≡ a * 0 = ap (λ t. a * t) none in inl (omega arith)
factors w p q a i b j (inr one) (inr other) fit = inr (omega arith)

-- only nothing is so little
no_little : (side : Side) (a i b j w p q : ℕ) (x : Shortened) → HavePlaces w p a i → HavePlaces w q b j → p + q ≤ w → IsShortened side (a * b) x → i + j + x.dropped < w → (a * b ≡ 0) × (x.mantissa ≡ 0)
no_little side a i b j w p q x first second fit is less = at (factors w p q a i b j first second fit)
  where
    at : (a * b ≡ 0) ⊎ (w + w ≤ i + j + (p + q)) → (a * b ≡ 0) × (x.mantissa ≡ 0)
    at (inl none) = (none, cut_none side (a * b) x.mantissa (10 ^ x.dropped) (ten_pos x.dropped) none is.cut)
    at (inr many) = absurd (omega arith)

none_near : (side : Side) (top x y : ℕ) → x ≡ 0 → y ≡ 0 → IsNearBound side top x y
none_near Down top x y ex ey = λ within. omega arith
none_near Up top x y ex ey = omega arith

least_none : (side : Side) (m : ℕ) → m ≡ 0 → least side m ≡ 0
least_none Down m none = refl
least_none Up m none = none

pub returns-then-total-whole-clause-near : goal.returns-then-total-whole-clause-near
returns-then-total-whole-clause-near c p q first second fit =
    let a = c.args.one in
    let b = c.args.other in
    let x = c.shortened-short in
    let w = c.args.whole in
    let no = no_little c.args.side a.mantissa a.exponent b.mantissa b.exponent w p q x.result first second fit x.ensures (omega arith) in
    let l = c.least.ensures ∙ least_none c.args.side x.result.mantissa no.1 in
    let e : a.mantissa * b.mantissa * (10 ^ a.exponent * 10 ^ b.exponent) ≡ 0 * (10 ^ a.exponent * 10 ^ b.exponent) = ap (λ t. t * (10 ^ a.exponent * 10 ^ b.exponent)) no.0 in
    let f : 10 ^ w * (c.least.result * 10 ^ 0) ≡ 10 ^ w * (0 * 10 ^ 0) = ap (λ t. 10 ^ w * (t * 10 ^ 0)) l in
    none_near c.args.side (10 ^ w * 10 ^ w) (parts a * parts b) (10 ^ w * (c.least.result * 10 ^ 0)) (omega arith) (omega arith)

pub returns-then-total-whole-clause-places : goal.returns-then-total-whole-clause-places
returns-then-total-whole-clause-places c p q first second fit =
    let a = c.args.one in
    let b = c.args.other in
    let x = c.shortened-short in
    let no = no_little c.args.side a.mantissa a.exponent b.mantissa b.exponent c.args.whole p q x.result first second fit x.ensures (omega arith) in
    inl (c.least.ensures ∙ least_none c.args.side x.result.mantissa no.1)

-- the powers of ten on both sides
powers : (w i j k e : ℕ) → w + e ≡ i + j + k → 10 ^ (i + j) * 10 ^ k ≡ 10 ^ w * 10 ^ e
powers w i j k e h =
    let a = ten_sum (w + e) w e refl in
    let b = ten_sum (w + e) (i + j) k (omega arith) in
    omega arith

pub returns-clause-bound : goal.returns-clause-bound
returns-clause-bound c =
    let a = c.args.one in
    let b = c.args.other in
    let x = c.shortened-short in
    let w = c.args.whole in
    let e = a.exponent + b.exponent + x.result.dropped - w in
    bound_held c.args.side (parts a * parts b) x.result.mantissa e w (parts c.held.result) (10 ^ w) _ _ _ refl refl (powers w a.exponent b.exponent x.result.dropped e (omega arith))
    (product_cut c.args.side a.mantissa a.exponent b.mantissa b.exponent x.result x.ensures) c.held.ensures.worth

pub returns-clause-near : goal.returns-clause-near
returns-clause-near c p q first second fit =
    let a = c.args.one in
    let b = c.args.other in
    let x = c.shortened-short in
    let w = c.args.whole in
    let e = a.exponent + b.exponent + x.result.dropped - w in
    near_held c.args.side (parts a * parts b) x.result.mantissa e w (parts c.held.result) (10 ^ w) _ _ _ refl refl (powers w a.exponent b.exponent x.result.dropped e (omega arith)) (ten_pos w)
    (product_cut c.args.side a.mantissa a.exponent b.mantissa b.exponent x.result x.ensures) (product_near c.args.side a.mantissa a.exponent b.mantissa b.exponent x.result x.ensures) c.held.ensures.worth

pub returns-clause-places : goal.returns-clause-places
returns-clause-places c p q first second fit =
    let a = c.args.one in
    let b = c.args.other in
    c.held.ensures.places (p + q) (at (factors c.args.whole p q a.mantissa a.exponent b.mantissa b.exponent first second fit))
  where
    at : (c.args.one.mantissa * c.args.other.mantissa ≡ 0) ⊎ (c.args.whole + c.args.whole ≤ c.args.one.exponent + c.args.other.exponent + (p + q))
        → HavePlaces c.args.whole (p + q) c.shortened-short.result.mantissa (c.args.one.exponent + c.args.other.exponent + c.shortened-short.result.dropped - c.args.whole)
    at (inl none) = inl (cut_none c.args.side _ _ _ (ten_pos c.shortened-short.result.dropped) none c.shortened-short.ensures.cut)
    at (inr many) = inr (omega (arith, c.if-total-whole.false))
