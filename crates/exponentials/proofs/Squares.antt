-- Bounds of squares, and of x that is halved.
use Rattle.std.proofs.Common.{ℕ, zero, suc, ◌+◌, ◌*◌, ◌-◌, ◌^◌, ◌≤◌, ◌<◌, ◌≡◌, ◌∙◌, inl, inr, refl, ap, subst, arith}
use Rattle.std.proofs.Math.Nat.{mul-le-mul, mul-le-mul_right, pow-succ', one-le-pow}
use Rattle.std.proofs.lemmas.Nat.{pow-add}
use Rattle.decimals.specs.Decimals.{parts}
use Rattle.exponentials.specs.declared.span.Span.{Span}
use Rattle.exponentials.specs.Exponentials.{IsAtLeastChance, IsAtMostChance}
use Rattle.exponentials.specs.inner.Spans.{AreChances, IsAbove, IsBelow, IsWithin}
use Rattle.exponentials.specs.inner.Terms.{IsProduct}
use Rattle.exponentials.proofs.Numbers.{none_power, square_low, square_high}

ten_pos : (k : ℕ) → 0 < 10 ^ k
ten_pos k = let h = one-le-pow k 10 (omega arith) in omega arith

-- twice the exponent
pub twice : (n i : ℕ) → n ^ (2 ^ (i + 1)) ≡ n ^ (2 ^ i) * n ^ (2 ^ i)
twice n i =
    let h = pow-add 2 i 1 in
    let e : 2 ^ (i + 1) ≡ 2 ^ i + 2 ^ i = omega arith in
    ap (λ (k : ℕ). n ^ k) e ∙ pow-add n (2 ^ i) (2 ^ i)

pub once : (n : ℕ) → n ^ (2 ^ 0) ≡ n
once n =
    let e : n ^ (2 ^ 0) ≡ n ^ 1 = refl in
    let h : n ^ 1 ≡ n * n ^ 0 = pow-succ' n 0 in
    let f : n * n ^ 0 ≡ n * 1 = ap (λ k. n * k) (none_power n) in
    let one : n * 1 ≡ n = omega arith in
    e ∙ (h ∙ (f ∙ one))

pub power_le : (n d i : ℕ) → n ≤ d → n ^ (2 ^ i) ≤ d ^ (2 ^ i)
power_le n d zero le = rw (once n, once d) le
power_le n d (suc i) le =
    let h = power_le n d i le in
    let g : n ^ (2 ^ (i + 1)) ≤ d ^ (2 ^ (i + 1)) = rw (twice n i, twice d i) (mul-le-mul h h) in
    let one_more : i + 1 ≡ suc i = omega arith in
    subst (λ (k : ℕ). n ^ (2 ^ k) ≤ d ^ (2 ^ k)) one_more g

-- the bounds of a square
pub squared_above : (whole n d i : ℕ) (q r : Span) → IsProduct whole q q r → IsAbove whole (n ^ (2 ^ i)) (d ^ (2 ^ i)) q → IsAbove whole (n ^ (2 ^ (i + 1))) (d ^ (2 ^ (i + 1))) r
squared_above whole n d i q r product above =
    rw (twice n i, twice d i) (square_low (10 ^ whole) (parts q.low) (parts r.low) (n ^ (2 ^ i)) (d ^ (2 ^ i)) (ten_pos whole) product.low above)

pub squared_below : (whole n d i : ℕ) (q r : Span) → n ≤ d → IsProduct whole q q r → IsBelow whole (n ^ (2 ^ i)) (d ^ (2 ^ i)) q → IsBelow whole (n ^ (2 ^ (i + 1))) (d ^ (2 ^ (i + 1))) r
squared_below whole n d i q r le product below =
    rw (twice n i, twice d i) (square_high (10 ^ whole) (parts q.high) (parts r.high) (n ^ (2 ^ i)) (d ^ (2 ^ i)) (ten_pos whole) product.high below (power_le n d i le))

pub first_above : (whole n d : ℕ) (q : Span) → IsAbove whole n d q → IsAbove whole (n ^ (2 ^ 0)) (d ^ (2 ^ 0)) q
first_above whole n d q above = rw (once n, once d) above

pub first_below : (whole n d : ℕ) (q : Span) → IsBelow whole n d q → IsBelow whole (n ^ (2 ^ 0)) (d ^ (2 ^ 0)) q
first_below whole n d q below = rw (once n, once d) below

-- x that is halved lies within bounds that are
pub halved_within : (whole a b k : ℕ) (x y : Span) → parts y.low * 2 ^ k ≤ parts x.low → parts x.high ≤ parts y.high * 2 ^ k → IsWithin whole a b x → IsWithin whole a (b * 2 ^ k) y
halved_within whole a b k x y low high within =
    let g : parts y.low * 2 ^ k * b ≤ parts x.low * b = mul-le-mul_right b low in
    let h : parts x.high * b ≤ parts y.high * 2 ^ k * b = mul-le-mul_right b high in
    let l = within.least in
    let m = within.most in
    record { least = omega arith; most = omega arith }

pub halvings_pos : (b k : ℕ) → 0 < b → 0 < b * 2 ^ k
halvings_pos b k some = let h = one-le-pow k 2 (omega arith) in let g : 1 * 1 ≤ b * 2 ^ k = mul-le-mul some h in omega arith

-- half as much, once more
pub half_low : (l h x k : ℕ) → h * 2 ≤ l → l * 2 ^ k ≤ x → h * 2 ^ (k + 1) ≤ x
half_low l h x k half low =
    let e = pow-add 2 k 1 in
    let g : h * 2 * 2 ^ k ≤ l * 2 ^ k = mul-le-mul_right (2 ^ k) half in
    let f : h * 2 ^ (k + 1) ≡ h * (2 ^ k * 2) = ap (λ t. h * t) e in
    omega arith

pub half_high : (l h x k : ℕ) → l ≤ h * 2 → x ≤ l * 2 ^ k → x ≤ h * 2 ^ (k + 1)
half_high l h x k half high =
    let e = pow-add 2 k 1 in
    let g : l * 2 ^ k ≤ h * 2 * 2 ^ k = mul-le-mul_right (2 ^ k) half in
    let f : h * 2 ^ (k + 1) ≡ h * (2 ^ k * 2) = ap (λ t. h * t) e in
    omega arith

-- all that may be
pub unknown_above : (whole n d : ℕ) (q : Span) → parts q.low ≡ 0 → IsAbove whole n d q
unknown_above whole n d q low = rw low (omega arith)

pub unknown_below : (whole n d : ℕ) (q : Span) → n ≤ d → parts q.high ≡ 10 ^ whole → IsBelow whole n d q
unknown_below whole n d q le high = let h : n * 10 ^ whole ≤ d * 10 ^ whole = mul-le-mul_right (10 ^ whole) le in rw high (omega arith)

-- without halving
pub small_chance : (whole : ℕ) (x p : Span) → parts x.high ≤ 10 ^ whole → ((a b d m : ℕ) → 0 < b → IsWithin whole a b x → IsAtLeastChance a b d m → IsAbove whole m d p)
    → ((a b d m : ℕ) → 0 < b → IsWithin whole a b x → IsAtMostChance a b d m → IsBelow whole m d p) → AreChances whole x record { span = p; halvings = 0 }
small_chance whole x p few low high =
    record {
      least = λ a b d m some within chance.
          let here : IsAtLeastChance a b d m = subst (λ (k : ℕ). IsAtLeastChance a k d m) (one b) chance in
          rw (once d, once (d - m), left d m here.part) (low a b d m some within here);
      most = λ a b d m some within chance.
          let here : IsAtMostChance a b d m = subst (λ (k : ℕ). IsAtMostChance a k d m) (one b) chance in
          rw (once d, once (d - m), left d m here.part) (high a b d m some within here);
      enough = inl (omega arith);
      small = λ top. refl;
    }
  where
    one : (b : ℕ) → b * 2 ^ 0 ≡ b
    one b = omega arith

    left : (d m : ℕ) → m ≤ d → d - (d - m) ≡ m
    left d m part = omega arith

-- with halving
pub halved_chance : (whole k : ℕ) (x y p : Span) → parts y.low * 2 ^ k ≤ parts x.low → parts x.high ≤ parts y.high * 2 ^ k → parts y.high ≤ 10 ^ whole → 10 ^ whole < parts x.high
    → ((a b d m : ℕ) → 0 < b → IsWithin whole a b y → IsAtLeastChance a b d m → IsAbove whole (d ^ (2 ^ k) - (d - m) ^ (2 ^ k)) (d ^ (2 ^ k)) p)
    → ((a b d m : ℕ) → 0 < b → IsWithin whole a b y → IsAtMostChance a b d m → IsBelow whole (d ^ (2 ^ k) - (d - m) ^ (2 ^ k)) (d ^ (2 ^ k)) p)
    → AreChances whole x record { span = p; halvings = k }
halved_chance whole k x y p low high few many least most =
    let h : parts y.high * 2 ^ k ≤ 10 ^ whole * 2 ^ k = mul-le-mul_right (2 ^ k) few in
    let top_halved : parts x.high ≤ 10 ^ whole * 2 ^ k = omega arith in
    record {
      least = λ a b d m some within chance. least a (b * 2 ^ k) d m (halvings_pos b k some) (halved_within whole a b k x y low high within) chance;
      most = λ a b d m some within chance. most a (b * 2 ^ k) d m (halvings_pos b k some) (halved_within whole a b k x y low high within) chance;
      enough = inl top_halved;
      small = λ top. absurd (omega arith);
    }

-- with nothing said
pub unknown_chance : (whole k : ℕ) (x p : Span) → 10 ^ whole < parts x.high → parts p.low ≡ 0 → parts p.high ≡ 10 ^ whole → AreChances whole x record { span = p; halvings = k }
unknown_chance whole k x p many low high =
    record {
      least = λ a b d m some within chance. unknown_above whole (d ^ (2 ^ k) - (d - m) ^ (2 ^ k)) (d ^ (2 ^ k)) p low;
      most = λ a b d m some within chance. unknown_below whole (d ^ (2 ^ k) - (d - m) ^ (2 ^ k)) (d ^ (2 ^ k)) p (omega arith) high;
      enough = inr (low, high);
      small = λ top. absurd (omega arith);
    }
