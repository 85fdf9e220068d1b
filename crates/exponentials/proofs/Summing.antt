-- The sums of the series, term by term.
use Rattle.std.proofs.Common.{ℕ, zero, suc, ◌+◌, ◌*◌, ◌^◌, ◌≤◌, ◌<◌, ◌≡◌, min, refl, sym, subst, arith}
use Rattle.std.proofs.Math.Nat.{mul-le-mul, mul-le-mul_left, mul-le-mul_right, le_of_mul-le-mul_left, pow-succ', one-le-pow}
use Rattle.decimals.specs.Decimals.{parts}
use Rattle.exponentials.specs.declared.span.Span.{Span}
use Rattle.exponentials.specs.declared.series.Terms.{Terms}
use Rattle.exponentials.specs.Exponentials.{below, partial, IsAtLeastChance, IsAtMostChance}
use Rattle.exponentials.specs.inner.Spans.{IsWithin}
use Rattle.exponentials.specs.inner.Terms.{AreSummed, AreTerms, IsNextTerm, IsSum}
use Rattle.exponentials.proofs.Numbers.{none_power, product_pos, term_low, term_high, sum_low, sum_high, keep_low, keep_high, series_low, series_high, held_low, held_high}

pub below-none : (b : ℕ) → below b 0 ≡ 1
unfolding below
below-none b = refl

pub below-more : (b n : ℕ) → below b (suc n) ≡ below b n * (b * (n + 2))
unfolding below
below-more b n = refl

pub latest-none : (a b : ℕ) → (partial a b 0).latest ≡ 0
unfolding partial
latest-none a b = refl

pub other-none : (a b : ℕ) → (partial a b 0).other ≡ 0
unfolding partial
other-none a b = refl

pub latest-more : (a b n : ℕ) → (partial a b (suc n)).latest ≡ (partial a b n).other * (b * (n + 2)) + a ^ (suc n)
unfolding partial
latest-more a b n = refl

pub other-more : (a b n : ℕ) → (partial a b (suc n)).other ≡ (partial a b n).latest * (b * (n + 2))
unfolding partial
other-more a b n = refl

pub below_pos : (b n : ℕ) → 0 < b → 0 < below b n
below_pos b zero some = let e = below-none b in omega arith
below_pos b (suc n) some =
    let e = below-more b n in
    let h = product_pos (below b n) (b * (n + 2)) (below_pos b n some) (product_pos b (n + 2) some (omega arith)) in
    omega arith

-- the sums and the last term once more are no more than 1
pub total_few : (a b n : ℕ) → 0 < b → a ≤ b → (partial a b n).latest + (partial a b n).other + a ^ n ≤ below b n
total_few a b zero some less =
    let e = below-none b in
    let f = latest-none a b in
    let g = other-none a b in
    let h = none_power a in
    omega arith
total_few a b (suc n) some less =
    let e = below-more b n in
    let f = latest-more a b n in
    let g = other-more a b n in
    let p = pow-succ' a n in
    let l = (partial a b n).latest in
    let o = (partial a b n).other in
    let h1 : (l + o + a ^ n) * (b * (n + 2)) ≤ below b n * (b * (n + 2)) = mul-le-mul_right (b * (n + 2)) (total_few a b n some less) in
    let h2 : a ^ n * (a * 2) ≤ a ^ n * (b * (n + 2)) = mul-le-mul_left (a ^ n) (mul-le-mul less (omega arith)) in
    omega arith

pub term_few : (a b n : ℕ) → 0 < b → a ≤ b → a ^ n ≤ below b n
term_few a b n some less = let h = total_few a b n some less in omega arith

-- before the first term
pub first_terms : (whole : ℕ) (x : Span) (terms : Terms) → parts terms.term.low ≡ 10 ^ whole → parts terms.term.high ≡ 10 ^ whole
    → parts terms.latest.low ≡ 0 → parts terms.latest.high ≡ 0 → parts terms.other.low ≡ 0 → parts terms.other.high ≡ 0 → AreTerms whole x 0 terms
first_terms whole x terms tl th ll lh ol oh a b some less within =
    let e = below-none b in
    let f = latest-none a b in
    let g = other-none a b in
    let h = none_power a in
    record {
      term = record { least = rw (e, tl, h) (omega arith); most = rw (e, th, h) (omega arith) };
      latest = record { least = rw (e, f, ll) (omega arith); most = rw (e, f, lh) (omega arith) };
      other = record { least = rw (e, g, ol) (omega arith); most = rw (e, g, oh) (omega arith) };
    }

ten_pos : (k : ℕ) → 0 < 10 ^ k
ten_pos k = let h = one-le-pow k 10 (omega arith) in omega arith

-- a term more
pub next_summed : (whole a b n count : ℕ) (x : Span) (t u : Terms) → 0 < b → a ≤ b → n + 2 ≡ count → IsWithin whole a b x → AreSummed whole a b n t
    → IsNextTerm whole count t.term x u.term → IsSum whole t.other u.term u.latest → u.other ≡ t.latest → AreSummed whole a b (suc n) u
next_summed whole a b n count x t u some less is within are next sum kept =
    let s = 10 ^ whole in
    let pos = ten_pos whole in
    let D = below b n in
    let e = below-more b n in
    let p = pow-succ' a n in
    let pa : a ^ suc n ≡ a ^ n * a = omega arith in
    let total = total_few a b (suc n) some less in
    let lm = latest-more a b n in
    let om = other-more a b n in
    let few : (partial a b n).other * (b * (n + 2)) + a ^ suc n ≤ D * (b * (n + 2)) = omega arith in
    let nl : s * (parts u.term.low * (n + 2)) ≤ parts t.term.low * parts x.low = subst (λ (k : ℕ). s * (parts u.term.low * k) ≤ parts t.term.low * parts x.low) (sym is) next.low in
    let nh : min (s * s) (parts t.term.high * parts x.high) ≤ s * (parts u.term.high * (n + 2)) = subst (λ (k : ℕ). min (s * s) (parts t.term.high * parts x.high) ≤ s * (parts u.term.high * k)) (sym is) next.high in
    let tl : parts u.term.low * (D * (b * (n + 2))) ≤ a ^ suc n * s =
    rw pa (term_low s (parts t.term.low) (parts x.low) (parts u.term.low) (n + 2) (a ^ n) D a b pos nl are.term.least within.least) in
    let th : a ^ suc n * s ≤ parts u.term.high * (D * (b * (n + 2))) =
    rw pa (term_high s (parts t.term.high) (parts x.high) (parts u.term.high) (n + 2) (a ^ n) D a b pos nh are.term.most within.most (term_few a b n some less) less) in
    record {
      term = record { least = rw e tl; most = rw e th };
      latest =
          record {
            least = rw (e, lm) (sum_low s (parts t.other.low) (parts u.term.low) (parts u.latest.low) (partial a b n).other (a ^ suc n) D (b * (n + 2)) sum.low are.other.least tl);
            most = rw (e, lm) (sum_high s (parts t.other.high) (parts u.term.high) (parts u.latest.high) (partial a b n).other (a ^ suc n) D (b * (n + 2)) sum.high are.other.most th few);
          };
      other =
          record {
            least = rw (e, om, kept) (keep_low s (parts t.latest.low) (partial a b n).latest D (b * (n + 2)) are.latest.least);
            most = rw (e, om, kept) (keep_high s (parts t.latest.high) (partial a b n).latest D (b * (n + 2)) are.latest.most);
          };
    }

pub next_terms : (whole n count : ℕ) (x : Span) (t u : Terms) → n + 2 ≡ count → AreTerms whole x n t
    → IsNextTerm whole count t.term x u.term → IsSum whole t.other u.term u.latest → u.other ≡ t.latest → AreTerms whole x (n + 1) u
next_terms whole n count x t u is are next sum kept a b some less within =
    let one_more : suc n ≡ n + 1 = omega arith in
    subst (λ (k : ℕ). AreSummed whole a b k u) one_more (next_summed whole a b n count x t u some less is within (are a b some less within) next sum kept)

-- x is no more than 1
pub no_more : (whole a b : ℕ) (x : Span) → IsWithin whole a b x → parts x.high ≤ 10 ^ whole → a ≤ b
no_more whole a b x within few =
    let h : parts x.high * b ≤ 10 ^ whole * b = mul-le-mul_right b few in
    let m = within.most in
    le_of_mul-le-mul_left {k = 10 ^ whole} (omega arith) (ten_pos whole)

-- the bounds by 21 terms and by 22
pub least_chance : (whole a b d m : ℕ) (x : Span) (odd : Terms) (B p : ℕ) → 0 < b → parts x.high ≤ 10 ^ whole → IsWithin whole a b x → IsAtLeastChance a b d m → AreTerms whole x 21 odd
    → B + min (parts odd.latest.high) (10 ^ whole) ≤ 10 ^ whole + parts odd.other.low → 10 ^ whole * p ≤ parts x.low * B → p * d ≤ m * 10 ^ whole
least_chance whole a b d m x odd B p some top within chance are step low =
    let less = no_more whole a b x within top in
    let is = are a b some less within in
    let total = total_few a b 21 some less in
    series_low (10 ^ whole) (parts x.low) B (min (parts odd.latest.high) (10 ^ whole)) (parts odd.other.low) p (below b 21) (partial a b 21).other (partial a b 21).latest a b d m
    (ten_pos whole) some (below_pos b 21 some) within.least step (held_high (10 ^ whole) (parts odd.latest.high) (partial a b 21).latest (below b 21) is.latest.most (omega arith)) is.other.least low (chance.least 10)

pub most_chance : (whole a b d m : ℕ) (x : Span) (even : Terms) (B p : ℕ) → 0 < b → parts x.high ≤ 10 ^ whole → IsWithin whole a b x → IsAtMostChance a b d m → AreTerms whole x 22 even
    → min (10 ^ whole + min (parts even.other.low) (10 ^ whole)) (10 ^ whole + parts even.latest.high) ≤ B + min (parts even.other.low) (10 ^ whole)
    → min (10 ^ whole * 10 ^ whole) (parts x.high * B) ≤ 10 ^ whole * p → m * 10 ^ whole ≤ p * d
most_chance whole a b d m x even B p some top within chance are step high =
    let less = no_more whole a b x within top in
    let is = are a b some less within in
    let first = chance.most 0 in
    let e = below-none b in
    let f = latest-none a b in
    let g = other-none a b in
    series_high (10 ^ whole) (parts x.high) B (min (parts even.other.low) (10 ^ whole)) (parts even.latest.high) p (below b 22) (partial a b 22).latest (partial a b 22).other a b d m
    (ten_pos whole) some (below_pos b 22 some) within.most step (held_low (10 ^ whole) (parts even.other.low) (partial a b 22).other (below b 22) is.other.least) is.latest.most high chance.part
    (first_chance m b a d (below b 0) (partial a b 0).latest (partial a b 0).other e f g first) (chance.most 11)
  where
    first_chance : (m b a d D l o : ℕ) → D ≡ 1 → l ≡ 0 → o ≡ 0 → m * (b * D) + a * o * d ≤ a * (D + l) * d → m * b ≤ a * d
    first_chance m b a d D l o eD el eo h = let k = rw (eD, el, eo) at h in omega arith
