-- Sums over all sets of some events.
use Rattle.std.proofs.Common.{ℕ, ◌+◌, ◌*◌, ◌≤◌, ◌≡◌, ◌==◌, ◌∙◌, sym, true, false, List, [], ◌∷◌, map, refl, ap, arith}
use Rattle.std.specs.List.{sum_by}
use Rattle.std.proofs.lemmas.List.Sums.{sum_by-append, sum_by-cons}
use Rattle.std.proofs.lemmas.Grind.{common_steps}
use Rattle.zdd_store.specs.inner.Family.{has}
use Rattle.probabilities.specs.Weights.{subsets}
use Rattle.probabilities.specs.inner.Weights.{IsApart}

-- the sum over all sets of the events
abbrev pub total : List ℕ → (List ℕ → ℕ) → ℕ
total es g = sum_by g (subsets es)

sum-map : (e : ℕ) (sets : List (List ℕ)) (g : List ℕ → ℕ) → sum_by g (map (λ set. e ∷ set) sets) ≡ sum_by (λ set. g (e ∷ set)) sets
sum-map e [] g = refl
sum-map e (s ∷ sets) g =
    let h = sum-map e sets g in
    omega (arith, sum_by-cons g (e ∷ s) (map (λ set. e ∷ set) sets), sum_by-cons (λ set. g (e ∷ set)) s sets)

pub total-none : (g : List ℕ → ℕ) → total [] g ≡ g []
unfolding subsets
total-none g = let h : total [] g ≡ 0 + g [] = refl in omega arith

pub total-more : (e : ℕ) (es : List ℕ) (g : List ℕ → ℕ) → total (e ∷ es) g ≡ total es g + total es (λ set. g (e ∷ set))
unfolding subsets
total-more e es g = sum_by-append g (subsets es) (map (λ set. e ∷ set) (subsets es)) ∙ ap (λ k. sum_by g (subsets es) + k) (sum-map e (subsets es) g)

pub has-none : (v : ℕ) → has [] v ≡ false
unfolding has
has-none v = refl

pub has-more : (w v : ℕ) (set : List ℕ) → (w == v) ≡ false → has set v ≡ false → has (w ∷ set) v ≡ false
unfolding has
has-more w v set apart h = rw apart h

pub has-first : (v : ℕ) (set : List ℕ) → has (v ∷ set) v ≡ true
unfolding has
has-first v set = grind (arith, common_steps)

pub has-other : (v w : ℕ) (set : List ℕ) → (v == w) ≡ false → has (v ∷ set) w ≡ has set w
unfolding has
has-other v w set apart = rw apart refl

-- two functions with the same values at the sets without v
pub total-same : (v : ℕ) (es : List ℕ) (g h : List ℕ → ℕ) → IsApart v es → ((set : List ℕ) → has set v ≡ false → g set ≡ h set) → total es g ≡ total es h
unfolding IsApart
total-same v [] g h apart same = total-none g ∙ (same [] (has-none v) ∙ sym (total-none h))
total-same v (e ∷ es) g h apart same =
    let a = total-same v es g h apart.2 same in
    let b = total-same v es (λ set. g (e ∷ set)) (λ set. h (e ∷ set)) apart.2 (λ set out. same (e ∷ set) (has-more e v set apart.1 out)) in
    omega (arith, total-more e es g, total-more e es h)

pub total-scaled : (k : ℕ) (es : List ℕ) (g : List ℕ → ℕ) → total es (λ set. k * g set) ≡ k * total es g
total-scaled k es g = scaled (subsets es)
  where
    scaled : (sets : List (List ℕ)) → sum_by (λ set. k * g set) sets ≡ k * sum_by g sets
    scaled [] = omega arith
    scaled (s ∷ sets) = let h = scaled sets in omega (arith, sum_by-cons (λ set. k * g set) s sets, ap (λ n. k * n) (sum_by-cons g s sets))

-- one sum is at most another
pub total-le : (es : List ℕ) (g h : List ℕ → ℕ) → ((set : List ℕ) → g set ≤ h set) → total es g ≤ total es h
total-le es g h below = each (subsets es)
  where
    each : (sets : List (List ℕ)) → sum_by g sets ≤ sum_by h sets
    each [] = omega arith
    each (s ∷ sets) = let i = each sets in let j = below s in omega (arith, sum_by-cons g s sets, sum_by-cons h s sets)
