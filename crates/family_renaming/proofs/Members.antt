-- The sets of a family renamed, from its tests.
use Rattle.std.proofs.Common.{◌≡◌, ◌⊎◌, ◌↔◌, ℕ, Bool, true, false, ◌&&◌, List, [], ◌∷◌, Contains, refl, sym, ap, ◌∙◌, subst, inl, inr, eqb-true, eq-eqb}
use Rattle.std.specs.Prelude.{◌==◌, ◌||◌}
use Rattle.std.specs.List.{list_any}
use Rattle.std.proofs.lemmas.Bool.{false≢true}
use Rattle.zdd_store.specs.inner.Family.{Family}
use Rattle.zdd_store.proofs.Orders.{first_or_rest, contains_first, contains_rest, contains_none}
use Rattle.zdd_families.proofs.Booleans.{or_left, or_right, or_cases, and_made, and_cases}
use Rattle.family_renaming.specs.inner.Renaming.{renamed, AreRenamed, IsRenamedOf}

-- whether two sets are the same list
same_set : List ℕ → List ℕ → Bool
same_set [] [] = true
same_set [] (m ∷ ms) = false
same_set (n ∷ ns) [] = false
same_set (n ∷ ns) (m ∷ ms) = (n == m) && same_set ns ms

set_itself : (set : List ℕ) → same_set set set ≡ true
unfolding same_set
set_itself [] = refl
set_itself (n ∷ ns) = and_made (n == n) (same_set ns ns) (eq-eqb n n refl) (set_itself ns)

set_is : (a b : List ℕ) → same_set a b ≡ true → a ≡ b
unfolding same_set
set_is [] [] e = refl
set_is [] (m ∷ ms) e = absurd (false≢true e)
set_is (n ∷ ns) [] e = absurd (false≢true e)
set_is (n ∷ ns) (m ∷ ms) e = let both = and_cases (n == m) (same_set ns ms) e in λ i. eqb-true n m both.0 i ∷ set_is ns ms both.1 i

-- a family has a set that passes a test exactly where the test finds one
any_set : (test : List ℕ → Bool) (family : Family) (set : List ℕ) → Contains family set → test set ≡ true → list_any test family ≡ true
any_set test [] set here e = absurd (contains_none set here)
any_set test (first ∷ rest) set here e = by (first_or_rest first rest set here) (λ k. any_set test rest set k e)
  where
    by : (first ≡ set) ⊎ Contains rest set → (Contains rest set → list_any test rest ≡ true) → test first || list_any test rest ≡ true
    by (inl is) more = or_left (test first) (list_any test rest) (ap test is ∙ e)
    by (inr k) more = or_right (test first) (list_any test rest) (more k)

any_found : (test : List ℕ → Bool) (family : Family) → list_any test family ≡ true → (set : List ℕ) × Contains family set × (test set ≡ true)
any_found test [] e = absurd (false≢true e)
any_found test (first ∷ rest) e = by (or_cases (test first) (list_any test rest) e) (any_found test rest)
  where
    by : (test first ≡ true) ⊎ (list_any test rest ≡ true) → (list_any test rest ≡ true → (set : List ℕ) × Contains rest set × (test set ≡ true)) → (set : List ℕ) × Contains (first ∷ rest) set × (test set ≡ true)
    by (inl h) more = (first, contains_first first rest, h)
    by (inr h) more = let found = more h in (found.0, contains_rest first rest found.0 found.1, found.2)

-- the family renamed has the renamed sets, and no other
pub renamed_sets : (names : List ℕ) (family other : Family) → AreRenamed names family other → (set : List ℕ) → Contains other set ↔ IsRenamedOf names family set
renamed_sets names family other same set = (
  (λ here.
      let found = any_found (λ s. same_set set (renamed names s)) family (sym (same (same_set set)) ∙ any_set (same_set set) other set here (set_itself set)) in
      (found.0, found.1, set_is set (renamed names found.0) found.2)),
  (λ of.
      let found = any_found (same_set set) other (same (same_set set) ∙ any_set (λ s. same_set set (renamed names s)) family of.0 of.1 (ap (same_set set) (sym of.2) ∙ set_itself set)) in
      subst (Contains other) (sym (set_is set found.0 found.2)) found.1),
)
