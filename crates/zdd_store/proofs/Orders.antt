-- The order of the sets of a family: it tells them apart, a branch keeps it, and in it families with the same sets are equal.
use Rattle.std.proofs.Common.{◌≡◌, ℕ, zero, suc, ◌<◌, ◌⊎◌, Bool, true, false, ◌&&◌, ◌||◌, List, [], ◌∷◌, Contains, refl, sym, ◌∙◌, subst, inl, inr, arith, eqb-true, eq-eqb}
use Rattle.std.specs.Prelude.{IsTrue, nat_lt, ◌==◌}
use Rattle.std.specs.List.{AllByRecursion}
use Rattle.std.proofs.lemmas.Bool.{false≢true, lt-ltb, ltb-true}
use Rattle.zdd_store.specs.inner.Family.{Family, branch, least_of, least_number, precedes, IsInOrder, HaveSameSets}
use Rattle.zdd_store.proofs.Branches.{with_var, branch-with_var}

lt_true : (n m : ℕ) → n < m → nat_lt n m ≡ true
lt_true n m h = lt-ltb n m h

lt_irreflexive : (n : ℕ) → nat_lt n n ≡ true → ⊥
lt_irreflexive n h = let below : n < n = ltb-true n n h in omega arith

or_left : (a b : Bool) → a ≡ true → a || b ≡ true
or_left true b e = refl
or_left false b e = absurd (false≢true e)

or_right : (a b : Bool) → b ≡ true → a || b ≡ true
or_right true b e = refl
or_right false b e = e

or_cases : (a b : Bool) → a || b ≡ true → (a ≡ true) ⊎ (b ≡ true)
or_cases true b e = inl refl
or_cases false b e = inr e

and_made : (a b : Bool) → a ≡ true → b ≡ true → a && b ≡ true
and_made true b e f = f
and_made false b e f = absurd (false≢true e)

and_cases : (a b : Bool) → a && b ≡ true → (a ≡ true) × (b ≡ true)
and_cases true b e = (refl, e)
and_cases false b e = absurd (false≢true e)

-- no set stands before itself
irreflexive : (set : List ℕ) → precedes set set ≡ true → ⊥
irreflexive [] e = false≢true e
irreflexive (n ∷ ns) e = by (or_cases (nat_lt n n) ((n == n) && precedes ns ns) e) (irreflexive ns)
  where
    by : (nat_lt n n ≡ true) ⊎ ((n == n) && precedes ns ns ≡ true) → (precedes ns ns ≡ true → ⊥) → ⊥
    by (inl h) rest = lt_irreflexive n h
    by (inr h) rest = rest (and_cases (n == n) (precedes ns ns) h).1

-- of two sets not both stand before the other
asymmetric : (a b : List ℕ) → precedes a b ≡ true → precedes b a ≡ true → ⊥
asymmetric [] b e f = false≢true e
asymmetric (n ∷ ns) [] e f = false≢true f
asymmetric (n ∷ ns) (m ∷ ms) e f = by (or_cases (nat_lt n m) ((n == m) && precedes ns ms) e) (or_cases (nat_lt m n) ((m == n) && precedes ms ns) f) (asymmetric ns ms)
  where
    by : (nat_lt n m ≡ true) ⊎ ((n == m) && precedes ns ms ≡ true) → (nat_lt m n ≡ true) ⊎ ((m == n) && precedes ms ns ≡ true)
        → (precedes ns ms ≡ true → precedes ms ns ≡ true → ⊥) → ⊥
    by (inl h) (inl k) rest = let below : n < m = ltb-true n m h in let above : m < n = ltb-true m n k in omega arith
    by (inl h) (inr k) rest = let below : n < m = ltb-true n m h in let same : m ≡ n = eqb-true m n (and_cases (m == n) (precedes ms ns) k).0 in omega arith
    by (inr h) (inl k) rest = let above : m < n = ltb-true m n k in let same : n ≡ m = eqb-true n m (and_cases (n == m) (precedes ns ms) h).0 in omega arith
    by (inr h) (inr k) rest = rest (and_cases (n == m) (precedes ns ms) h).1 (and_cases (m == n) (precedes ms ns) k).1

-- a set that begins with a smaller number stands before each set of a family
before_greater : (var : ℕ) (set : List ℕ) (lo : Family) → var < least_number lo → AllByRecursion (λ other. IsTrue (precedes (var ∷ set) other)) lo
unfolding least_number least_of
before_greater var set [] h = tt
before_greater var set ([] ∷ sets) h = (refl, before_greater var set sets (omega arith))
before_greater var set ((n ∷ ns) ∷ sets) h =
    (or_left (nat_lt var n) ((var == n) && precedes set ns) (lt_true var n (omega arith)), before_greater var set sets (omega arith))

before_rest : (var : ℕ) (set : List ℕ) (lo hi : Family) → var < least_number lo → AllByRecursion (λ other. IsTrue (precedes set other)) hi
    → AllByRecursion (λ other. IsTrue (precedes (var ∷ set) other)) (with_var var hi lo)
unfolding with_var
before_rest var set lo [] h all = before_greater var set lo h
before_rest var set lo (other ∷ others) h all =
    (or_right (nat_lt var var) ((var == var) && precedes set other) (and_made (var == var) (precedes set other) (eq-eqb var var refl) all.0), before_rest var set lo others h all.1)

ordered-with_var : (var : ℕ) (lo hi : Family) → var < least_number lo → IsInOrder lo → IsInOrder hi → IsInOrder (with_var var hi lo)
unfolding with_var IsInOrder
ordered-with_var var lo [] h in_lo in_hi = in_lo
ordered-with_var var lo (set ∷ sets) h in_lo in_hi = (before_rest var set lo sets h in_hi.0, ordered-with_var var lo sets h in_lo in_hi.1)

-- the sets of a branch are in order
pub ordered-branch : (var : ℕ) (lo hi : Family) → var < least_number lo → IsInOrder lo → IsInOrder hi → IsInOrder (branch var lo hi)
ordered-branch var lo hi h in_lo in_hi = subst IsInOrder (sym (branch-with_var var lo hi)) (ordered-with_var var lo hi h in_lo in_hi)

-- an item of a list is the first or one of the rest
pub first_or_rest : {A : Type 0} (x : A) (xs : List A) (y : A) → Contains (x ∷ xs) y → (x ≡ y) ⊎ Contains xs y
first_or_rest x xs y (zero, within, is) = inl is
first_or_rest x xs y (suc k, within, is) = inr (k, omega arith, is)

pub contains_first : {A : Type 0} (x : A) (xs : List A) → Contains (x ∷ xs) x
contains_first x xs = (0, omega arith, refl)

pub contains_rest : {A : Type 0} (x : A) (xs : List A) (y : A) → Contains xs y → Contains (x ∷ xs) y
contains_rest x xs y (k, within, is) = (suc k, omega arith, is)

pub contains_none : {A : Type 0} (y : A) → Contains [] y → ⊥
contains_none y (k, within, is) = omega arith

pub all_contained : {A : Type 0} (P : A → Type 0) (xs : List A) (y : A) → AllByRecursion P xs → Contains xs y → P y
all_contained P [] y all has = absurd (contains_none y has)
all_contained P (x ∷ xs) y all has = by (first_or_rest x xs y has) (all_contained P xs y all.1)
  where
    by : (x ≡ y) ⊎ Contains xs y → (Contains xs y → P y) → P y
    by (inl e) rest = subst P e all.0
    by (inr h) rest = rest h

-- families in order with the same sets are equal
pub equal_families : (a b : Family) → IsInOrder a → IsInOrder b → HaveSameSets a b → a ≡ b
unfolding IsInOrder
equal_families [] [] in_a in_b same = refl
equal_families [] (t ∷ b) in_a in_b same = absurd (contains_none t ((same t).1 (contains_first t b)))
equal_families (s ∷ a) [] in_a in_b same = absurd (contains_none s ((same s).0 (contains_first s a)))
equal_families (s ∷ a) (t ∷ b) in_a in_b same = by (first_or_rest t b s ((same s).0 (contains_first s a))) (first_or_rest s a t ((same t).1 (contains_first t b)))
    (λ h. equal_families a b in_a.1 in_b.1 h)
  where
    rest : s ≡ t → HaveSameSets a b
    rest e set = (
      (λ h. rest_of (first_or_rest t b set ((same set).0 (contains_rest s a set h))) h),
      (λ h. rest_of' (first_or_rest s a set ((same set).1 (contains_rest t b set h))) h),
    )
      where
        rest_of : (t ≡ set) ⊎ Contains b set → Contains a set → Contains b set
        rest_of (inl f) h = absurd (irreflexive set (subst (λ x. precedes x set ≡ true) (e ∙ f) (all_contained (λ other. IsTrue (precedes s other)) a set in_a.0 h)))
        rest_of (inr k) h = k

        rest_of' : (s ≡ set) ⊎ Contains a set → Contains b set → Contains a set
        rest_of' (inl f) h = absurd (irreflexive set (subst (λ x. precedes x set ≡ true) (sym e ∙ f) (all_contained (λ other. IsTrue (precedes t other)) b set in_b.0 h)))
        rest_of' (inr k) h = k

    joined : s ≡ t → (HaveSameSets a b → a ≡ b) → s ∷ a ≡ t ∷ b
    joined e tails = λ i. e i ∷ tails (rest e) i

    by : (t ≡ s) ⊎ Contains b s → (s ≡ t) ⊎ Contains a t → (HaveSameSets a b → a ≡ b) → s ∷ a ≡ t ∷ b
    by (inl e) k tails = joined (sym e) tails
    by (inr h) (inl e) tails = joined e tails
    by (inr h) (inr k) tails =
        absurd (asymmetric t s (all_contained (λ other. IsTrue (precedes t other)) b s in_b.0 h) (all_contained (λ other. IsTrue (precedes s other)) a t in_a.0 k))
