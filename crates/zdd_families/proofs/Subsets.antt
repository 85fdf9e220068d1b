-- Sets as rising lists: subsets by their numbers, and that subsets of each other are equal.
use Rattle.std.proofs.Common.{◌≡◌, ℕ, ◌<◌, ◌≤◌, ◌⊎◌, min, Bool, true, false, List, [], ◌∷◌, refl, sym, ap, ◌∙◌, subst, inl, inr, arith, eqb-true, eq-eqb}
use Rattle.std.specs.Prelude.{◌==◌}
use Rattle.std.proofs.lemmas.Bool.{false≢true}
use Rattle.zdd_store.specs.inner.Family.{least_of, has, is_within, IsRising}
use Rattle.zdd_families.proofs.Booleans.{or_left, or_right, or_cases, and_made, and_cases, same_test}

-- a set that begins with a number has it, and what the rest has
pub has_first : (n : ℕ) (ns : List ℕ) → has (n ∷ ns) n ≡ true
unfolding has
has_first n ns = or_left (n == n) (has ns n) (eq-eqb n n refl)

pub has_rest : (n : ℕ) (ns : List ℕ) (x : ℕ) → has ns x ≡ true → has (n ∷ ns) x ≡ true
unfolding has
has_rest n ns x h = or_right (n == x) (has ns x) h

pub has_cases : (n : ℕ) (ns : List ℕ) (x : ℕ) → has (n ∷ ns) x ≡ true → (n ≡ x) ⊎ (has ns x ≡ true)
unfolding has
has_cases n ns x h = by (or_cases (n == x) (has ns x) h)
  where
    by : (n == x ≡ true) ⊎ (has ns x ≡ true) → (n ≡ x) ⊎ (has ns x ≡ true)
    by (inl e) = inl (eqb-true n x e)
    by (inr e) = inr e

pub has_none : (x : ℕ) → has [] x ≡ true → ⊥
unfolding has
has_none x e = false≢true e

-- no set has a number that is less than its least
pub least-has : (set : List ℕ) (x : ℕ) → has set x ≡ true → least_of set ≤ x
unfolding least_of has
least-has [] x h = absurd (false≢true h)
least-has (n ∷ ns) x h = by (has_cases n ns x h) (least-has ns x)
  where
    by : (n ≡ x) ⊎ (has ns x ≡ true) → (has ns x ≡ true → least_of ns ≤ x) → min n (least_of ns) ≤ x
    by (inl e) rest = omega arith
    by (inr h) rest = let below : least_of ns ≤ x = rest h in omega arith

pub has-greater : (set : List ℕ) (x : ℕ) → x < least_of set → has set x ≡ false
has-greater set x h = by (has set x) refl
  where
    by : (b : Bool) → has set x ≡ b → b ≡ false
    by true e = let below : least_of set ≤ x = least-has set x e in absurd (omega arith)
    by false e = refl

-- a subset, by its numbers
pub within_has : (part whole : List ℕ) (x : ℕ) → is_within part whole ≡ true → has part x ≡ true → has whole x ≡ true
unfolding is_within has
within_has [] whole x h here = absurd (false≢true here)
within_has (n ∷ ns) whole x h here =
    by (has_cases n ns x here) (within_has ns whole x (and_cases (has whole n) (is_within ns whole) h).1)
  where
    by : (n ≡ x) ⊎ (has ns x ≡ true) → (has ns x ≡ true → has whole x ≡ true) → has whole x ≡ true
    by (inl e) rest = subst (λ y. has whole y ≡ true) e (and_cases (has whole n) (is_within ns whole) h).0
    by (inr k) rest = rest k

pub within_from : (part whole : List ℕ) → ((x : ℕ) → has part x ≡ true → has whole x ≡ true) → is_within part whole ≡ true
unfolding is_within
within_from [] whole h = refl
within_from (n ∷ ns) whole h = and_made (has whole n) (is_within ns whole) (h n (has_first n ns)) (within_from ns whole (λ x k. h x (has_rest n ns x k)))

pub within_self : (set : List ℕ) → is_within set set ≡ true
within_self set = within_from set set (λ x h. h)

pub within_trans : (a b c : List ℕ) → is_within a b ≡ true → is_within b c ≡ true → is_within a c ≡ true
within_trans a b c h k = within_from a c (λ x here. within_has b c x k (within_has a b x h here))

pub within_more : (part whole : List ℕ) (n : ℕ) → is_within part whole ≡ true → is_within part (n ∷ whole) ≡ true
within_more part whole n h = within_from part (n ∷ whole) (λ x here. has_rest n whole x (within_has part whole x h here))

-- a number that a set does not have makes no difference to whether it is within another
pub within-without : (part whole : List ℕ) (n : ℕ) → has part n ≡ false → is_within part (n ∷ whole) ≡ is_within part whole
within-without part whole n none = same_test (is_within part (n ∷ whole)) (is_within part whole)
    (λ h. within_from part whole (λ x here. by x here (has_cases n whole x (within_has part (n ∷ whole) x h here)))) (within_more part whole n)
  where
    by : (x : ℕ) → has part x ≡ true → (n ≡ x) ⊎ (has whole x ≡ true) → has whole x ≡ true
    by x here (inl e) = absurd (false≢true (sym none ∙ ap (has part) e ∙ here))
    by x here (inr k) = k

-- rising lists that are subsets of each other are equal
pub same_rising : (a b : List ℕ) → IsRising a → IsRising b → is_within a b ≡ true → is_within b a ≡ true → a ≡ b
unfolding IsRising least_of
same_rising [] [] up_a up_b h k = refl
same_rising [] (m ∷ ms) up_a up_b h k = absurd (has_none m (within_has (m ∷ ms) [] m k (has_first m ms)))
same_rising (n ∷ ns) [] up_a up_b h k = absurd (has_none n (within_has (n ∷ ns) [] n h (has_first n ns)))
same_rising (n ∷ ns) (m ∷ ms) up_a up_b h k =
    by (same_rising ns ms up_a.1 up_b.1)
  where
    first : n ≡ m
    first =
        let above : least_of (n ∷ ns) ≤ m = least-has (n ∷ ns) m (within_has (m ∷ ms) (n ∷ ns) m k (has_first m ms)) in
        let below : least_of (m ∷ ms) ≤ n = least-has (m ∷ ms) n (within_has (n ∷ ns) (m ∷ ms) n h (has_first n ns)) in
        let up_n : n < least_of ns = up_a.0 in
        let up_m : m < least_of ms = up_b.0 in
        omega arith

    rest_h : is_within ns ms ≡ true
    rest_h = within_from ns ms (λ x here. by_h x here (has_cases m ms x (within_has (n ∷ ns) (m ∷ ms) x h (has_rest n ns x here))))
      where
        by_h : (x : ℕ) → has ns x ≡ true → (m ≡ x) ⊎ (has ms x ≡ true) → has ms x ≡ true
        by_h x here (inl e) = let up_n : n < least_of ns = up_a.0 in let low : least_of ns ≤ x = least-has ns x here in let one : n ≡ m = first in absurd (omega arith)
        by_h x here (inr there) = there

    rest_k : is_within ms ns ≡ true
    rest_k = within_from ms ns (λ x here. by_k x here (has_cases n ns x (within_has (m ∷ ms) (n ∷ ns) x k (has_rest m ms x here))))
      where
        by_k : (x : ℕ) → has ms x ≡ true → (n ≡ x) ⊎ (has ns x ≡ true) → has ns x ≡ true
        by_k x here (inl e) = let up_m : m < least_of ms = up_b.0 in let low : least_of ms ≤ x = least-has ms x here in let one : n ≡ m = first in absurd (omega arith)
        by_k x here (inr there) = there

    by : (is_within ns ms ≡ true → is_within ms ns ≡ true → ns ≡ ms) → n ∷ ns ≡ m ∷ ms
    by rest = λ i. first i ∷ rest rest_h rest_k i
