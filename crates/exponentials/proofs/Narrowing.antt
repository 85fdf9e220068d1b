-- How near the bounds of the terms are, of their sums, and of 1 - e^(-x).
use Rattle.std.proofs.Common.{ℕ, zero, suc, ◌+◌, ◌-◌, ◌*◌, ◌^◌, ◌≤◌, ◌<◌, ◌≡◌, min, refl, sym, ap, subst, arith}
use Rattle.std.proofs.Math.Nat.{mul-le-mul, mul-le-mul_left, mul-le-mul_right, le_of_mul-le-mul_left, one-le-pow, pow-le-pow_left}
use Rattle.decimals.specs.Decimals.{parts, AreNear}
use Rattle.decimals.proofs.Nearness.{near_same, near_then, near_times, near_plus, near_more, near_cancel, near_scale, near_often, steps_more, steps_less, more_places}
use Rattle.exponentials.specs.declared.span.Span.{Span}
use Rattle.exponentials.specs.declared.series.Terms.{Terms}
use Rattle.exponentials.specs.Exponentials.{below}
use Rattle.exponentials.specs.inner.Terms.{IsNextTerm, IsSum}
use Rattle.exponentials.specs.inner.Widths.{IsNarrow, AreNarrowTerms}
use Rattle.exponentials.proofs.Numbers.{product_pos}
use Rattle.exponentials.proofs.Summing.{below-none, below-more, below_pos}

pub ten_pos : (k : ℕ) → 0 < 10 ^ k
ten_pos k = let h = one-le-pow k 10 (omega arith) in omega arith

pub narrow_more : (whole p q i j : ℕ) (span : Span) → p ≤ q → i ≤ j → IsNarrow whole p i span → IsNarrow whole q j span
narrow_more whole p q i j span few near is =
    record {
      low_places = more_places whole p q span.low.mantissa span.low.exponent few is.low_places;
      high_places = more_places whole p q span.high.mantissa span.high.exponent few is.high_places;
      order = is.order;
      near = near_more i j (parts span.high) (parts span.low) near is.near;
    }

-- a part of a product: th times xh is s times above z, of which rh is one of c parts, and tl times xl is s times below y, of which rl is one
pub term_near : (s c i j th xh tl xl z rh y rl : ℕ) → 0 < s → 0 < c → AreNear c (rh * c) z → AreNear 1 (s * z) (th * xh) → AreNear i th tl → AreNear j xh xl → AreNear 1 (tl * xl) (s * y)
    → AreNear c y (rl * c) → AreNear (i + j + 2 + 2 * c) rh rl
term_near s c i j th xh tl xl z rh y rl ps pc high up term x down low =
    let a = near_scale c s (rh * c) z high in
    let b = near_times i j th tl xh xl term x in
    let d = near_scale c s y (rl * c) low in
    let e = near_then c 1 (s * (rh * c)) (s * z) (th * xh) a up in
    let f = near_then (c + 1) (i + j) (s * (rh * c)) (th * xh) (tl * xl) e b in
    let g = near_then (c + 1 + (i + j)) 1 (s * (rh * c)) (tl * xl) (s * y) f down in
    let h = near_then (c + 1 + (i + j) + 1) c (s * (rh * c)) (s * y) (s * (rl * c)) g d in
    let count : c + 1 + (i + j) + 1 + c ≡ i + j + 2 + 2 * c = omega arith in
    let eh : s * (rh * c) ≡ s * c * rh = omega arith in
    let el : s * (rl * c) ≡ s * c * rl = omega arith in
    let k : AreNear (i + j + 2 + 2 * c) (s * c * rh) (s * c * rl) =
    subst (λ m. AreNear m (s * c * rh) (s * c * rl)) count (subst (λ m. AreNear (c + 1 + (i + j) + 1 + c) m (s * c * rl)) eh (subst (λ m. AreNear (c + 1 + (i + j) + 1 + c) (s * (rh * c)) m) el h)) in
    near_cancel (i + j + 2 + 2 * c) (s * c) rh rl (product_pos s c ps pc) k

-- a sum
pub sum_near : (i ah bh al bl rh rl : ℕ) → AreNear 1 rh (ah + bh) → AreNear i ah al → AreNear i bh bl → AreNear 1 (al + bl) rl → AreNear (i + 2) rh rl
sum_near i ah bh al bl rh rl up one other down =
    let a = near_plus i ah al bh bl one other in
    let b = near_then 1 i rh (ah + bh) (al + bl) up a in
    let d = near_then (1 + i) 1 rh (al + bl) rl b down in
    let count : 1 + i + 1 ≡ i + 2 = omega arith in
    subst (λ m. AreNear m rh rl) count d

-- the bounds of a product, and of its parts, are in order where those of the factors are
pub product_order : (s ah bh al bl rh rl : ℕ) → al ≤ ah → bl ≤ bh → al * bl ≤ s * s → s * rl ≤ al * bl → min (s * s) (ah * bh) ≤ s * rh → s * rl ≤ s * rh
product_order s ah bh al bl rh rl one other within low high = let h : al * bl ≤ ah * bh = mul-le-mul one other in omega arith

pub term_order : (s c th xh tl xl rh rl : ℕ) → 0 < s → 0 < c → tl ≤ th → xl ≤ xh → tl * xl ≤ s * s → s * (rl * c) ≤ tl * xl → min (s * s) (th * xh) ≤ s * (rh * c) → rl ≤ rh
term_order s c th xh tl xl rh rl ps pc term x within low high =
    let h = product_order s th xh tl xl (rh * c) (rl * c) term x within low high in
    let g : s * c * rl ≤ s * c * rh = omega arith in
    le_of_mul-le-mul_left {k = s * c} g (product_pos s c ps pc)

-- so are those of a sum
pub sum_order : (s ah bh al bl rh rl : ℕ) → al ≤ ah → bl ≤ bh → al + bl ≤ s → min s (ah + bh) ≤ rh → rl ≤ al + bl → rl ≤ rh
sum_order s ah bh al bl rh rl one other within high low = omega arith

-- the terms before the first one
pub first_narrow : (whole places units : ℕ) (terms : Terms) → IsNarrow whole (0 * (places + 18)) (0 * (units + 50)) terms.term → IsNarrow whole (0 * (places + 18)) (0 * (units + 52)) terms.latest
    → IsNarrow whole (0 * (places + 18)) (0 * (units + 52)) terms.other → parts terms.term.low ≡ 10 ^ whole → parts terms.latest.low ≡ 0 → parts terms.other.low ≡ 0
    → AreNarrowTerms whole places units 0 terms
first_narrow whole places units terms term latest other all none nothing =
    let e = below-none 1 in
    record {
      term = term;
      latest = latest;
      other = other;
      small = rw e (omega arith);
      few = omega arith;
      odd = λ k is. absurd (omega arith);
      even = λ k is. omega arith;
      begun = λ here. omega arith;
    }

-- a term is at most the whole
term_within : (whole n t : ℕ) → t * below 1 n ≤ 10 ^ whole → t ≤ 10 ^ whole
term_within whole n t small =
    let pos = below_pos 1 n (omega arith) in
    let h : t * 1 ≤ t * below 1 n = mul-le-mul_left t (omega arith) in
    omega arith

-- a next term is one of at least two parts of the last one
part_of : (s r c t x : ℕ) → 0 < s → s * (r * c) ≤ t * x → x ≤ s → r * c ≤ t
part_of s r c t x pos low small =
    let h : t * x ≤ t * s = mul-le-mul_left t small in
    let g : s * (r * c) ≤ s * t = omega arith in
    le_of_mul-le-mul_left {k = s} g pos

few_next : (n s r t l o u v : ℕ) → r * (n + 2) ≤ t → t ≤ s → 4 * (l + o) + 2 * t ≤ 3 * s → (n ≡ 0 → l + o ≡ 0) → u ≤ o + r → v ≡ l → 4 * (u + v) + 2 * r ≤ 3 * s
few_next zero s r t l o u v part within few begun sum kept = let none = begun refl in omega arith
few_next (suc n) s r t l o u v part within few begun sum kept = let h : r * 3 ≤ r * (suc n + 2) = mul-le-mul_left r (omega arith) in omega arith

odd_next : (s r rh t l o oh v u : ℕ) → r * 2 ≤ t → 4 * (l + o) + 2 * t ≤ 3 * s → r ≤ rh → l ≤ oh → v ≡ l → min s (oh + rh) ≤ u → v + r ≤ u
odd_next s r rh t l o oh v u part few order even kept high = omega arith

even_next : (r t o lh u vh : ℕ) → r ≤ t → o + t ≤ lh → u ≤ o + r → vh ≡ lh → u ≤ vh
even_next r t o lh u vh part odd sum kept = omega arith

-- a term more
pub next_narrow : (whole n count places units : ℕ) (x : Span) (t u : Terms) → n + 2 ≡ count → n ≤ 21 → IsNarrow whole places units x → parts x.low ≤ 10 ^ whole → 22 * (places + 18) ≤ whole
    → AreNarrowTerms whole places units n t → IsNextTerm whole count t.term x u.term → IsSum whole t.other u.term u.latest → u.other ≡ t.latest
    → ((p q i j : ℕ) → IsNarrow whole p i t.term → IsNarrow whole q j x → parts t.term.low ≤ 10 ^ whole → parts x.low ≤ 10 ^ whole → count ≤ 1000 → p + q + 18 ≤ whole
    → IsNarrow whole (p + q + 18) (i + j + 2 + 2 * count) u.term)
    → ((p i : ℕ) → IsNarrow whole p i t.other → IsNarrow whole p i u.term → parts t.other.low + parts u.term.low ≤ 10 ^ whole → IsNarrow whole p (i + 2) u.latest)
    → AreNarrowTerms whole places units (n + 1) u
next_narrow whole n count places units x t u is few_terms narrow small room are next sum kept step add =
    let s = 10 ^ whole in
    let within = term_within whole n (parts t.term.low) are.small in
    let part : parts u.term.low * count ≤ parts t.term.low = part_of s (parts u.term.low) count (parts t.term.low) (parts x.low) (ten_pos whole) next.low small in
    let part_n : parts u.term.low * (n + 2) ≤ parts t.term.low = subst (λ k. parts u.term.low * k ≤ parts t.term.low) (sym is) part in
    let two : parts u.term.low * 2 ≤ parts u.term.low * (n + 2) = mul-le-mul_left (parts u.term.low) (omega arith) in
    let fit : (n + 1) * (places + 18) ≤ 22 * (places + 18) = mul-le-mul_right (places + 18) (omega arith) in
    let term : IsNarrow whole ((n + 1) * (places + 18)) ((n + 1) * (units + 50)) u.term =
    narrow_more whole (n * (places + 18) + places + 18) ((n + 1) * (places + 18)) (n * (units + 50) + units + 2 + 2 * count) ((n + 1) * (units + 50)) u.term (omega arith) (omega arith)
    (step (n * (places + 18)) places (n * (units + 50)) units are.term narrow within small (omega arith) (omega arith)) in
    let latest = add ((n + 1) * (places + 18)) (n * (units + 52) + units + 50)
    (narrow_more whole (n * (places + 18)) ((n + 1) * (places + 18)) (n * (units + 52)) (n * (units + 52) + units + 50) t.other (omega arith) (omega arith) are.other)
    (narrow_more whole ((n + 1) * (places + 18)) ((n + 1) * (places + 18)) ((n + 1) * (units + 50)) (n * (units + 52) + units + 50) u.term (omega arith) (omega arith) term)
    (omega (arith, are.few)) in
    let more : n * (units + 52) + units + 50 + 2 ≡ (n + 1) * (units + 52) = omega arith in
    let same : parts u.other.low ≡ parts t.latest.low = ap (λ (k : Span). parts k.low) kept in
    let same_high : parts u.other.high ≡ parts t.latest.high = ap (λ (k : Span). parts k.high) kept in
    let order = are.latest.order in
    record {
      term = term;
      latest = subst (λ k. IsNarrow whole ((n + 1) * (places + 18)) k u.latest) more latest;
      other = subst (λ k. IsNarrow whole ((n + 1) * (places + 18)) ((n + 1) * (units + 52)) k) (sym kept)
          (narrow_more whole (n * (places + 18)) ((n + 1) * (places + 18)) (n * (units + 52)) ((n + 1) * (units + 52)) t.latest (omega arith) (omega arith) are.latest);
      small = small_next (parts u.term.low) (parts t.term.low) part_n are.small;
      few = few_next n s (parts u.term.low) (parts t.term.low) (parts t.latest.low) (parts t.other.low) (parts u.latest.low) (parts u.other.low) part_n within are.few are.begun sum.low same;
      odd = λ k here. odd_next s (parts u.term.low) (parts u.term.high) (parts t.term.low) (parts t.latest.low) (parts t.other.low) (parts t.other.high) (parts u.other.low) (parts u.latest.high) (omega arith) are.few term.order
          (are.even k (omega arith)) same sum.high;
      even = λ k here. even_next (parts u.term.low) (parts t.term.low) (parts t.other.low) (parts t.latest.high) (parts u.latest.low) (parts u.other.high) (omega arith) (are.odd (k - 1) (omega arith)) sum.low same_high;
      begun = λ none. absurd (omega arith);
    }
  where
    small_next : (r k : ℕ) → r * (n + 2) ≤ k → k * below 1 n ≤ 10 ^ whole → r * below 1 (n + 1) ≤ 10 ^ whole
    small_next r k part small =
        let one : suc n ≡ n + 1 = omega arith in
        let e : below 1 (n + 1) ≡ below 1 n * (1 * (n + 2)) = subst (λ m. below 1 m ≡ below 1 n * (1 * (n + 2))) one (below-more 1 n) in
        let h : r * (n + 2) * below 1 n ≤ k * below 1 n = mul-le-mul_right (below 1 n) part in
        let f : r * below 1 (n + 1) ≡ r * (below 1 n * (1 * (n + 2))) = ap (λ m. r * m) e in
        omega arith

-- the last of 22 terms is less than one in the 17th digit of the whole
pub little : (t s : ℕ) → t * below 1 22 ≤ s → t * 100000000000000000 ≤ s
unfolding below
little t s small = let h : t * 25852016738884976640000 ≤ s = small in omega arith

-- sixteen times a sum is seventeen times its lower bound at most
sixteen : (p d a h : ℕ) → 0 < p → h * p ≤ a * (p + d) → 16 * d ≤ p → 16 * h ≤ 17 * a
sixteen p d a h pos near small =
    let e : a * (16 * d) ≤ a * p = mul-le-mul_left a small in
    let f : p * (16 * h) ≤ p * (17 * a) = omega arith in
    le_of_mul-le-mul_left {k = p} f pos

gap_at : (s a h b l g t p d x y : ℕ) → 0 < p → a + x ≡ s → h + y ≡ s → h * p ≤ a * (p + d) → g * p ≤ l * (p + d) → l ≤ b + t → 4 * (a + b) ≤ 3 * s → t * 100000000000000000 ≤ s
    → p ≤ 100000000000000000 * d → 16 * d ≤ p → (x + g) * p ≤ (y + b) * (p + 15 * d)
gap_at s a h b l g t p d x y pos ex ey first second sum few small many steps =
    let top = sixteen p d a h pos first steps in
    let h1 : (a + s + b + t) * d ≤ 15 * (y + b) * d = mul-le-mul_right d (omega arith) in
    let e1 : (h + y) * p ≡ s * p = ap (λ k. k * p) ey in
    let e2 : (a + x) * p ≡ s * p = ap (λ k. k * p) ex in
    let h4 : l * p ≤ (b + t) * p = mul-le-mul_right p sum in
    let h5 : l * d ≤ (b + t) * d = mul-le-mul_right d sum in
    let h6 : t * p ≤ t * (100000000000000000 * d) = mul-le-mul_left t many in
    let h7 : t * 100000000000000000 * d ≤ s * d = mul-le-mul_right d small in
    omega arith

-- what so many steps are more than none
record Steps (times : ℕ) : Type 0 where
  more : ℕ
  is : 100000000000000001 ^ times ≡ 100000000000000000 ^ times + more
  some : 0 < 100000000000000000 ^ times
  many : 100000000000000000 ^ times ≤ 100000000000000000 * more
  little : 16 * more ≤ 100000000000000000 ^ times

steps_of : (times : ℕ) → 1 ≤ times → times ≤ 1000000000000000 → Steps times
steps_of times one few =
    let p = 100000000000000000 ^ times in
    let q = 100000000000000001 ^ times in
    let le : p ≤ q = pow-le-pow_left {n = 100000000000000000} {m = 100000000000000001} (omega arith) times in
    let pos = one-le-pow times 100000000000000000 (omega arith) in
    let more = steps_more 100000000000000000 1 times in
    let less = steps_less times (100000000000000000 - times) (omega arith) in
    record { more = q - p; is = omega arith; some = omega arith; many = at p q le more; little = below_at p q (100000000000000000 - times) le less (omega arith) }
  where
    at : (p q : ℕ) → p ≤ q → (100000000000000000 + times * 1) * p ≤ 100000000000000000 * q → p ≤ 100000000000000000 * (q - p)
    at p q le h = let g : 1 * p ≤ times * p = mul-le-mul_right p one in omega arith

    below_at : (p q c : ℕ) → p ≤ q → q * c ≤ p * 100000000000000000 → 99000000000000000 ≤ c → 16 * (q - p) ≤ p
    below_at p q c le h enough = let g : q * 99000000000000000 ≤ q * c = mul-le-mul_left q enough in omega arith

-- what is left of the whole without a sum and with another one
pub gap_near : (s times a h b l g t : ℕ) → 1 ≤ times → times ≤ 1000000000000000 → AreNear times h a → AreNear times g l → l ≤ b + t → 4 * (a + b) ≤ 3 * s → t * 100000000000000000 ≤ s
    → AreNear (times * 15) (s - a + g) (s - h + b)
gap_near s times a h b l g t one some first second sum few small =
    let is = steps_of times one some in
    let near : h * 100000000000000000 ^ times ≤ a * (100000000000000000 ^ times + is.more) = subst (λ k. h * 100000000000000000 ^ times ≤ a * k) is.is first in
    let other : g * 100000000000000000 ^ times ≤ l * (100000000000000000 ^ times + is.more) = subst (λ k. g * 100000000000000000 ^ times ≤ l * k) is.is second in
    let top = sixteen (100000000000000000 ^ times) is.more a h is.some near is.little in
    near_often times 15 (s - a + g) (s - h + b) is.more is.is
    (gap_at s a h b l g t (100000000000000000 ^ times) is.more (s - a) (s - h) is.some (omega arith) (omega arith) near other sum few small is.many is.little)

pub sum_part : (s times a h b : ℕ) → 1 ≤ times → times ≤ 1000000000000000 → AreNear times h a → 4 * (a + b) ≤ 3 * s → h ≤ s
sum_part s times a h b one some first few =
    let is = steps_of times one some in
    let near : h * 100000000000000000 ^ times ≤ a * (100000000000000000 ^ times + is.more) = subst (λ k. h * 100000000000000000 ^ times ≤ a * k) is.is first in
    let top = sixteen (100000000000000000 ^ times) is.more a h is.some near is.little in
    omega arith

-- the two bounds
pub series_near : (s k m xh xl wh wl x y rh rl : ℕ) → 0 < s → AreNear 1 (s * rh) (xh * wh) → AreNear k xh xl → AreNear 2 wh x → AreNear m x y → AreNear 2 y wl → AreNear 1 (xl * wl) (s * rl)
    → AreNear (k + m + 6) rh rl
series_near s k m xh xl wh wl x y rh rl pos up factor high gap low down =
    let a = near_then 2 m wh x y high gap in
    let b = near_then (2 + m) 2 wh y wl a low in
    let c = near_times k (2 + m + 2) xh xl wh wl factor b in
    let d = near_then 1 (k + (2 + m + 2)) (s * rh) (xh * wh) (xl * wl) up c in
    let e = near_then (1 + (k + (2 + m + 2))) 1 (s * rh) (xl * wl) (s * rl) d down in
    let count : 1 + (k + (2 + m + 2)) + 1 ≡ k + m + 6 = omega arith in
    near_cancel (k + m + 6) s rh rl pos (subst (λ n. AreNear n (s * rh) (s * rl)) count e)

-- what is left without the upper bound of a sum and with the lower one of another is no more than what is left the other way
pub without_order : (s al ah bl bh th g v wl wh : ℕ) → al ≤ ah → bl ≤ bh → bl ≤ s → ah ≤ s → wl ≤ s → v ≡ al → min s (bh + th) ≤ g → wl + min ah s ≤ s + bl → min (s + min v s) (s + g) ≤ wh + min v s → wl ≤ wh
without_order s al ah bl bh th g v wl wh a b few part below same sum low high = omega arith
