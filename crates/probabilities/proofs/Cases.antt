-- A weight by cases of one event.
use Rattle.std.proofs.Common.{ℕ, ◌+◌, ◌*◌, ◌-◌, ◌≤◌, ◌≡◌, ◌∙◌, Bool, true, false, List, [], ◌∷◌, refl, ap, arith, rules}
use Rattle.std.specs.Prelude.{if◌then◌else◌, IsTrue}
use Rattle.zdd_store.specs.inner.Family.{has}
use Rattle.probabilities.specs.Weights.{times_of, weight}
use Rattle.probabilities.specs.inner.Weights.{IsApart}
use Rattle.probabilities.proofs.Sums.{total, total-same, total-more, total-scaled, total-none, total-le, has-first, has-other}

-- an event that is none of these changes nothing
times-other : (d : ℕ) (m : ℕ → ℕ) (v : ℕ) (es set : List ℕ) → IsApart v es → times_of d m es (v ∷ set) ≡ times_of d m es set
unfolding times_of IsApart has
times-other d m v [] set apart = refl
times-other d m v (e ∷ es) set apart = rw (has-other v e set apart.0, times-other d m v es set apart.2) refl

without : (b : Bool) (k n : ℕ) → (if b then k * n else 0) ≡ k * (if b then n else 0)
without true k n = refl
without false k n = omega arith

at-without : (d : ℕ) (m : ℕ → ℕ) (e : ℕ) (es set : List ℕ) (b : Bool) → has set e ≡ false → (if b then times_of d m (e ∷ es) set else 0) ≡ (d - m e) * (if b then times_of d m es set else 0)
unfolding times_of has
at-without d m e es set b out = rw out (without b (d - m e) (times_of d m es set))

at-with : (d : ℕ) (m : ℕ → ℕ) (e : ℕ) (es set : List ℕ) (b : Bool) → IsApart e es → (if b then times_of d m (e ∷ es) (e ∷ set) else 0) ≡ m e * (if b then times_of d m es set else 0)
unfolding times_of has
at-with d m e es set b apart = rw (has-first e set, times-other d m e es set apart) (without b (m e) (times_of d m es set))

pub weight-cases : (d : ℕ) (m : ℕ → ℕ) (e : ℕ) (es : List ℕ) (f : List ℕ → Bool) → IsApart e es → weight d m (e ∷ es) f ≡ (d - m e) * weight d m es f + m e * weight d m es (λ set. f (e ∷ set))
unfolding weight
weight-cases d m e es f apart =
    let g : List ℕ → ℕ = λ set. if f set then times_of d m (e ∷ es) set else 0 in
    let lo : List ℕ → ℕ = λ set. if f set then times_of d m es set else 0 in
    let hi : List ℕ → ℕ = λ set. if f (e ∷ set) then times_of d m es set else 0 in
    let a = total-same e es g (λ set. (d - m e) * lo set) apart (λ set out. at-without d m e es set (f set) out) in
    let b = total-same e es (λ set. g (e ∷ set)) (λ set. m e * hi set) apart (λ set out. at-with d m e es set (f (e ∷ set)) apart) in
    let p = a ∙ total-scaled (d - m e) es lo in
    let q = b ∙ total-scaled (m e) es hi in
    total-more e es g ∙ (ap (λ k. k + total es (λ set. g (e ∷ set))) p ∙ ap (λ k. (d - m e) * total es lo + k) q)

-- where two conditions agree at the sets without an event
pub weight-same : (d : ℕ) (m : ℕ → ℕ) (v : ℕ) (es : List ℕ) (f g : List ℕ → Bool) → IsApart v es → ((set : List ℕ) → has set v ≡ false → f set ≡ g set) → weight d m es f ≡ weight d m es g
unfolding weight
weight-same d m v es f g apart same = total-same v es _ _ apart (λ set out. ap (λ (b : Bool). if b then times_of d m es set else 0) (same set out))

-- an event that makes no difference
pub weight-skips : (d : ℕ) (m : ℕ → ℕ) (e : ℕ) (es : List ℕ) (f : List ℕ → Bool) → IsApart e es → m e ≤ d → ((set : List ℕ) → f (e ∷ set) ≡ f set) → weight d m (e ∷ es) f ≡ d * weight d m es f
weight-skips d m e es f apart part same =
    let a = weight-cases d m e es f apart in
    let b : weight d m es (λ set. f (e ∷ set)) ≡ weight d m es f = weight-same d m e es _ _ apart (λ set out. same set) in
    a ∙ (ap (λ k. (d - m e) * weight d m es f + m e * k) b ∙ split (m e) (weight d m es f) part)
  where
    split : (p w : ℕ) → p ≤ d → (d - p) * w + p * w ≡ d * w
    split p w le = let h : (d - p + p) * w ≡ d * w = ap (λ k. k * w) (omega arith) in omega arith

pub weight-none : (d : ℕ) (m : ℕ → ℕ) (f : List ℕ → Bool) → weight d m [] f ≡ (if f [] then 1 else 0)
unfolding weight times_of
weight-none d m f = total-none (λ set. if f set then times_of d m [] set else 0)

at-le : (b c : Bool) (n : ℕ) → (IsTrue b → IsTrue c) → (if b then n else 0) ≤ (if c then n else 0)
at-le false c n more = omega arith
at-le true true n more = omega arith
at-le true false n more = let h : false ≡ true = more refl in search rules

-- a condition that holds more often
pub weight-le : (d : ℕ) (m : ℕ → ℕ) (es : List ℕ) (f g : List ℕ → Bool) → ((set : List ℕ) → IsTrue (f set) → IsTrue (g set)) → weight d m es f ≤ weight d m es g
unfolding weight
weight-le d m es f g more = total-le es _ _ (λ set. at-le (f set) (g set) (times_of d m es set) (more set))
