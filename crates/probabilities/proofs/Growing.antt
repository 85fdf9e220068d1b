-- Of a condition that grows the weight grows with the weight of each event; and the weight of all outcomes.
use Rattle.std.proofs.Common.{ℕ, ◌+◌, ◌*◌, ◌-◌, ◌^◌, ◌≤◌, ◌≡◌, ◌==◌, ◌∙◌, sym, Bool, true, false, List, [], ◌∷◌, length, refl, ap, arith}
use Rattle.std.specs.Prelude.{IsTrue, ◌||◌}
use Rattle.std.proofs.Math.Nat.{pow-zero, pow-succ', mul-le-mul_left}
use Rattle.zdd_store.specs.inner.Family.{has}
use Rattle.probabilities.specs.Weights.{weight}
use Rattle.probabilities.specs.inner.Weights.{IsApart, AreDistinct, Grows}
use Rattle.probabilities.proofs.Cases.{weight-cases, weight-skips, weight-none, weight-le}

-- p and q out of d; a and b at the first weights, x and y at the second
mixed : (d p q a b x y c k n : ℕ) → p + c ≡ q → q + k ≡ d → x + n ≡ y → a ≤ x → b ≤ y → (c + k) * a + p * b ≤ k * x + q * y
mixed d p q a b x y c k n ep eq exy low high =
    let h1 : (c + k) * a ≤ (c + k) * x = mul-le-mul_left (c + k) low in
    let h2 : p * b ≤ p * y = mul-le-mul_left p high in
    let h3 : (p + c) * y ≡ q * y = ap (λ t. t * y) ep in
    let h4 : c * (x + n) ≡ c * y = ap (λ t. c * t) exy in
    omega arith

pub more_mixed : (d p q a b x y : ℕ) → p ≤ q → q ≤ d → x ≤ y → a ≤ x → b ≤ y → (d - p) * a + p * b ≤ (d - q) * x + q * y
more_mixed d p q a b x y pq qd xy low high =
    let h = mixed d p q a b x y (q - p) (d - q) (y - x) (omega arith) (omega arith) (omega arith) low high in
    let e : q - p + (d - q) ≡ d - p = omega arith in
    rw (← e) h

has-joins : (v : ℕ) (set more : List ℕ) (e : ℕ) → (IsTrue (has set e) → IsTrue (has more e)) → IsTrue (has (v ∷ set) e) → IsTrue (has (v ∷ more) e)
unfolding has
has-joins v set more e sub h = at (v == e) sub h
  where
    at : (b : Bool) → (IsTrue (has set e) → IsTrue (has more e)) → IsTrue (b || has set e) → IsTrue (b || has more e)
    at true sub h = refl
    at false sub h = sub h

grows-at : (v : ℕ) (f : List ℕ → Bool) → Grows f → Grows (λ set. f (v ∷ set))
grows-at v f grows set more sub = grows (v ∷ set) (v ∷ more) (λ e. has-joins v set more e (sub e))

has-wider : (v : ℕ) (set : List ℕ) (e : ℕ) → IsTrue (has set e) → IsTrue (has (v ∷ set) e)
unfolding has
has-wider v set e h = at (v == e) h
  where
    at : (b : Bool) → IsTrue (has set e) → IsTrue (b || has set e)
    at true h = refl
    at false h = h

pub weight-grows : (d : ℕ) (m n : ℕ → ℕ) (es : List ℕ) (f : List ℕ → Bool) → ((e : ℕ) → m e ≤ n e) → ((e : ℕ) → n e ≤ d) → AreDistinct es → Grows f → weight d m es f ≤ weight d n es f
unfolding AreDistinct
weight-grows d m n [] f less part distinct grows = rw (weight-none d m f, weight-none d n f) (omega arith)
weight-grows d m n (e ∷ es) f less part distinct grows =
    rw (weight-cases d m e es f distinct.0, weight-cases d n e es f distinct.0)
    (more_mixed d (m e) (n e) _ _ _ _ (less e) (part e)
    (weight-le d n es f (λ set. f (e ∷ set)) (λ set. grows set (e ∷ set) (has-wider e set)))
    (weight-grows d m n es f less part distinct.1 grows)
    (weight-grows d m n es (λ set. f (e ∷ set)) less part distinct.1 (grows-at e f grows)))

pub weight-all : (d : ℕ) (m : ℕ → ℕ) (es : List ℕ) → ((e : ℕ) → m e ≤ d) → AreDistinct es → weight d m es (λ set. true) ≡ d ^ length es
unfolding AreDistinct
weight-all d m [] part distinct = weight-none d m (λ set. true) ∙ sym (pow-zero d)
weight-all d m (e ∷ es) part distinct =
    weight-skips d m e es (λ set. true) distinct.0 (part e) (λ set. refl) ∙ (ap (λ k. d * k) (weight-all d m es part distinct.1) ∙ sym (pow-succ' d (length es)))

-- a condition holds at most always
pub weight-most : (d : ℕ) (m : ℕ → ℕ) (e : ℕ) (es : List ℕ) (f : List ℕ → Bool) → ((a : ℕ) → m a ≤ d) → IsApart e es → AreDistinct es → weight d m (e ∷ es) f ≤ d * d ^ length es
unfolding AreDistinct
weight-most d m e es f part apart distinct =
    let a : weight d m (e ∷ es) f ≤ weight d m (e ∷ es) (λ set. true) = weight-le d m (e ∷ es) f (λ set. true) (λ set h. refl) in
    let b = weight-all d m (e ∷ es) part (apart, distinct) in
    let c = pow-succ' d (length es) in
    omega arith
