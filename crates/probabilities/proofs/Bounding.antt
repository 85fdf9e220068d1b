-- The step of the bounds for families.
use Rattle.std.proofs.Common.{ℕ, zero, suc, ◌+◌, ◌*◌, ◌-◌, ◌^◌, ◌≤◌, ◌<◌, ◌≡◌, ◌==◌, ◌∙◌, sym, min, inl, inr, Bool, true, false, List, [], ◌∷◌, length, refl, ap, arith}
use Rattle.std.specs.Prelude.{IsTrue, ◌⊎◌, ◌||◌, ◌&&◌}
use Rattle.std.proofs.lemmas.Bool.{cases_lt}
use Rattle.std.proofs.lemmas.Grind.{common_steps}
use Rattle.std.proofs.Math.Nat.{pow-succ', mul-le-mul_right}
use Rattle.zdd_store.specs.inner.Family.{has}
use Rattle.probabilities.specs.Weights.{weight, numbers}
use Rattle.probabilities.specs.inner.Weights.{IsApart, AreDistinct}
use Rattle.probabilities.specs.Rates.{Rates}
use Rattle.probabilities.specs.inner.Rates.{AreRates}
use Rattle.zdd_store.specs.inner.Family.{Family, least_of, least_number, is_within, covers}
use Rattle.probabilities.specs.inner.Bounded.{AreParts, IsLowerBound, IsUpperBound}
use Rattle.probabilities.proofs.Sums.{has-first, has-other}
use Rattle.probabilities.proofs.Cases.{weight-cases, weight-same, weight-skips, weight-none, weight-le}
use Rattle.probabilities.proofs.Growing.{weight-most, weight-all}
use Rattle.probabilities.proofs.OneStep.{low_step, high_node, low_skip, high_skip}

less_apart : (e a : ℕ) → e < a → (e == a) ≡ false
less_apart e a less = grind (arith, common_steps)

more_apart : (e a : ℕ) → e < a → (a == e) ≡ false
more_apart e a less = grind (arith, common_steps)

pub numbers-apart : (e count first : ℕ) → e < first → IsApart e (numbers count first)
unfolding numbers IsApart
numbers-apart e zero first less = tt
numbers-apart e (suc count) first less = (less_apart e first less, more_apart e first less, numbers-apart e count (first + 1) (omega arith))

pub numbers-distinct : (count first : ℕ) → AreDistinct (numbers count first)
unfolding numbers AreDistinct
numbers-distinct zero first = tt
numbers-distinct (suc count) first = (numbers-apart first count (first + 1) (omega arith), numbers-distinct count (first + 1))

pub length-numbers : (count first : ℕ) → length (numbers count first) ≡ count
unfolding numbers
length-numbers zero first = refl
length-numbers (suc count) first = ap suc (length-numbers count (first + 1))

-- a number below those of the family
within-more : (part set : List ℕ) (var : ℕ) → var < least_of part → is_within part (var ∷ set) ≡ is_within part set
unfolding least_of is_within
within-more [] set var less = refl
within-more (n ∷ part) set var less =
    rw (has-other var n set (less_apart var n (omega arith)), within-more part set var (omega arith)) refl

pub covers-more : (family : Family) (set : List ℕ) (var : ℕ) → var < least_number family → covers family (var ∷ set) ≡ covers family set
unfolding least_number covers
covers-more [] set var less = refl
covers-more (part ∷ family) set var less = rw (within-more part set var (omega arith), covers-more family set var (omega arith)) refl

or-none : (l h : Bool) → (l || (false && h)) ≡ l
or-none true h = refl
or-none false h = refl

or-more : (l h : Bool) → (IsTrue l → IsTrue h) → (l || (true && h)) ≡ h
or-more true h more = sym (more refl)
or-more false h more = refl

pub at-absent : (family : Family) (v : ℕ) (lo hi : Family) → AreParts family v lo hi → (set : List ℕ) → has set v ≡ false → covers family set ≡ covers lo set
at-absent family v lo hi parts set out =
    parts.covering set ∙ (ap (λ (b : Bool). covers lo set || (b && covers hi set)) out ∙ or-none (covers lo set) (covers hi set))

pub at-present : (family : Family) (v : ℕ) (lo hi : Family) → AreParts family v lo hi → (set : List ℕ) → covers family (v ∷ set) ≡ covers hi set
at-present family v lo hi parts set =
    let a : covers lo (v ∷ set) ≡ covers lo set = covers-more lo set v parts.lo_greater in
    let b : covers hi (v ∷ set) ≡ covers hi set = covers-more hi set v parts.hi_greater in
    parts.covering (v ∷ set)
    ∙ (ap (λ (t : Bool). covers lo (v ∷ set) || (t && covers hi (v ∷ set))) (has-first v set)
    ∙ (ap (λ (t : Bool). t || (true && covers hi (v ∷ set))) a
    ∙ (ap (λ (t : Bool). covers lo set || (true && t)) b ∙ or-more (covers lo set) (covers hi set) (parts.rises set))))

-- how often a family with parts covers
pub parts-weight : (d : ℕ) (m : ℕ → ℕ) (v : ℕ) (es : List ℕ) (family lo hi : Family) → IsApart v es → AreParts family v lo hi → weight d m (v ∷ es) (covers family) ≡ (d - m v) * weight d m es (covers lo) + m v * weight d m es (covers hi)
parts-weight d m v es family lo hi apart parts =
    let a : weight d m es (covers family) ≡ weight d m es (covers lo) = weight-same d m v es _ _ apart (at-absent family v lo hi parts) in
    let b : weight d m es (λ set. covers family (v ∷ set)) ≡ weight d m es (covers hi) = weight-same d m v es _ _ apart (λ set out. at-present family v lo hi parts set) in
    weight-cases d m v es (covers family) apart ∙ (ap (λ k. (d - m v) * k + m v * weight d m es (λ set. covers family (v ∷ set))) a ∙ ap (λ k. (d - m v) * weight d m es (covers lo) + m v * k) b)

pub more-numbers : (count first : ℕ) → numbers (suc count) first ≡ first ∷ numbers count (first + 1)
unfolding numbers
more-numbers count first = refl

pub skip-weight : (d : ℕ) (m : ℕ → ℕ) (count first : ℕ) (family : Family) → m first ≤ d → first < least_number family → weight d m (first ∷ numbers count (first + 1)) (covers family) ≡ d * weight d m (numbers count (first + 1)) (covers family)
skip-weight d m count first family part less =
    weight-skips d m first (numbers count (first + 1)) (covers family) (numbers-apart first count (first + 1) (omega arith)) part (λ set. covers-more family set first less)

pub lower-node : (s : ℕ) (r : Rates) (end : ℕ) (family : Family) (v : ℕ) (lo hi : Family) (x y z : ℕ) → 0 < s → AreRates s r → v < end → least_number family ≡ v → AreParts family v lo hi → IsLowerBound s r end lo x → IsLowerBound s r end hi y → s * z ≤ r.low_not v * x + r.low v * y → IsLowerBound s r end family z
lower-node s r end family v lo hi x y z pos rates inside top parts low high step d m count first within ends start = go count first ends start
  where
    node : (count : ℕ) → v + suc count ≡ end → z * d ^ suc count ≤ weight d m (v ∷ numbers count (v + 1)) (covers family) * s
    node count ends =
        let apart = numbers-apart v count (v + 1) (omega arith) in
        let la : x * d ^ count ≤ weight d m (numbers count (v + 1)) (covers lo) * s = low d m count (v + 1) within (omega arith) (omega (arith, parts.lo_greater)) in
        let ha : y * d ^ count ≤ weight d m (numbers count (v + 1)) (covers hi) * s = high d m count (v + 1) within (omega arith) (omega (arith, parts.hi_greater)) in
        rw (pow-succ' d count, parts-weight d m v (numbers count (v + 1)) family lo hi apart parts)
        (low_step s (d ^ count) _ _ (m v) d (r.low v) (r.low_not v) x y z pos (within.part v) (weight-le d m _ _ _ parts.rises) (rates.least v) (within.least v) la ha step)

    go : (count first : ℕ) → first + count ≡ end → first ≤ least_number family → z * d ^ count ≤ weight d m (numbers count first) (covers family) * s
    go zero first ends start = absurd (omega arith)
    go (suc count) first ends start = at (cases_lt first v) (go count (first + 1))
      where
        at : (first < v) ⊎ (v ≤ first) → (first + 1 + count ≡ end → first + 1 ≤ least_number family → z * d ^ count ≤ weight d m (numbers count (first + 1)) (covers family) * s) → z * d ^ suc count ≤ weight d m (numbers (suc count) first) (covers family) * s
        at (inl less) more =
            rw (more-numbers count first, pow-succ' d count, skip-weight d m count first family (within.part first) (omega arith))
            (low_skip s (d ^ count) _ d z (more (omega arith) (omega arith)))
        at (inr here) more = let same : first ≡ v = omega arith in rw (more-numbers count first, same) (node count (omega arith))

pub upper-node : (s : ℕ) (r : Rates) (end : ℕ) (family : Family) (v : ℕ) (lo hi : Family) (x y z : ℕ) → 0 < s → AreRates s r → v < end → least_number family ≡ v → AreParts family v lo hi → IsUpperBound s r end lo x → IsUpperBound s r end hi y → min (s * s) (r.high_not v * x + r.high v * y) ≤ s * z → IsUpperBound s r end family z
upper-node s r end family v lo hi x y z pos rates inside top parts low high step d m count first within ends start = go count first ends start
  where
    node : (count : ℕ) → v + suc count ≡ end → weight d m (v ∷ numbers count (v + 1)) (covers family) * s ≤ z * d ^ suc count
    node count ends =
        let apart = numbers-apart v count (v + 1) (omega arith) in
        let la : weight d m (numbers count (v + 1)) (covers lo) * s ≤ x * d ^ count = low d m count (v + 1) within (omega arith) (omega (arith, parts.lo_greater)) in
        let ha : weight d m (numbers count (v + 1)) (covers hi) * s ≤ y * d ^ count = high d m count (v + 1) within (omega arith) (omega (arith, parts.hi_greater)) in
        let most : weight d m (v ∷ numbers count (v + 1)) (covers family) ≤ d * d ^ count =
        ap-length (weight-most d m v (numbers count (v + 1)) (covers family) within.part apart (numbers-distinct count (v + 1))) (length-numbers count (v + 1)) in
        rw (pow-succ' d count)
        (high_node s (d ^ count) _ _ (m v) d (r.high v) (r.high_not v) x y z _ pos (within.part v) (weight-le d m _ _ _ parts.rises) (rates.most v) (within.most v) la ha step
        most (parts-weight d m v (numbers count (v + 1)) family lo hi apart parts))
      where
        ap-length : {w n : ℕ} → w ≤ d * d ^ n → n ≡ count → w ≤ d * d ^ count
        ap-length h e = rw e at h

    go : (count first : ℕ) → first + count ≡ end → first ≤ least_number family → weight d m (numbers count first) (covers family) * s ≤ z * d ^ count
    go zero first ends start = absurd (omega arith)
    go (suc count) first ends start = at (cases_lt first v) (go count (first + 1))
      where
        at : (first < v) ⊎ (v ≤ first) → (first + 1 + count ≡ end → first + 1 ≤ least_number family → weight d m (numbers count (first + 1)) (covers family) * s ≤ z * d ^ count) → weight d m (numbers (suc count) first) (covers family) * s ≤ z * d ^ suc count
        at (inl less) more =
            rw (more-numbers count first, pow-succ' d count, skip-weight d m count first family (within.part first) (omega arith))
            (high_skip s (d ^ count) _ d z (more (omega arith) (omega arith)))
        at (inr here) more = let same : first ≡ v = omega arith in rw (more-numbers count first, same) (node count (omega arith))

weight-full : (d : ℕ) (m : ℕ → ℕ) (count first : ℕ) → ((e : ℕ) → m e ≤ d) → weight d m (numbers count first) (λ set. true) ≡ d ^ count
weight-full d m count first part = weight-all d m (numbers count first) part (numbers-distinct count first) ∙ ap (λ n. d ^ n) (length-numbers count first)

weight-never : (d : ℕ) (m : ℕ → ℕ) (count first : ℕ) → ((e : ℕ) → m e ≤ d) → weight d m (numbers count first) (λ set. false) ≡ 0
unfolding numbers
weight-never d m zero first part = weight-none d m (λ set. false)
weight-never d m (suc count) first part =
    let a = weight-skips d m first (numbers count (first + 1)) (λ set. false) (numbers-apart first count (first + 1) (omega arith)) (part first) (λ set. refl) in
    rw (more-numbers count first) (a ∙ (ap (λ k. d * k) (weight-never d m count (first + 1) part) ∙ omega arith))

pub full-family : (d : ℕ) (m : ℕ → ℕ) (count first : ℕ) → ((e : ℕ) → m e ≤ d) → weight d m (numbers count first) (covers ([] ∷ [])) ≡ d ^ count
unfolding covers is_within
full-family d m count first part = weight-full d m count first part

pub none-family : (d : ℕ) (m : ℕ → ℕ) (count first : ℕ) → ((e : ℕ) → m e ≤ d) → weight d m (numbers count first) (covers []) ≡ 0
unfolding covers
none-family d m count first part = weight-never d m count first part

pub lower-none : (s : ℕ) (r : Rates) (end : ℕ) → IsLowerBound s r end [] 0
lower-none s r end d m count first within ends start = omega arith

pub upper-none : (s : ℕ) (r : Rates) (end : ℕ) → IsUpperBound s r end [] 0
upper-none s r end d m count first within ends start = rw (none-family d m count first within.part) (omega arith)

pub lower-full : (s : ℕ) (r : Rates) (end z : ℕ) → z ≤ s → IsLowerBound s r end ([] ∷ []) z
lower-full s r end z le d m count first within ends start =
    let h : z * d ^ count ≤ s * d ^ count = mul-le-mul_right (d ^ count) le in
    rw (full-family d m count first within.part) (omega arith)

pub upper-full : (s : ℕ) (r : Rates) (end z : ℕ) → s ≤ z → IsUpperBound s r end ([] ∷ []) z
upper-full s r end z le d m count first within ends start =
    let h : s * d ^ count ≤ z * d ^ count = mul-le-mul_right (d ^ count) le in
    rw (full-family d m count first within.part) (omega arith)
