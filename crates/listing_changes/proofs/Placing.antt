-- Where a set stands in a branch.
use Rattle.std.proofs.Common.{◌≡◌, ◌≢◌, ℕ, ◌<◌, ◌≤◌, ◌⊎◌, false, List, [], ◌∷◌, length, Contains, inl, inr, refl, sym, subst, ap, ◌∙◌, arith}
use Rattle.std.specs.Prelude.{◌↔◌, IsTrue}
use Rattle.std.proofs.lemmas.Bool.{false≢true}
use Rattle.zdd_store.specs.inner.Family.{Family, branch, least_number, least_of}
use Rattle.zdd_families.proofs.Covers.{least-member}
use Rattle.zdd_families.proofs.Joins.{WithVar, branch_member, hi_in_branch, lo_in_branch}

same-rest : (n var : ℕ) (ns rest : List ℕ) → n ∷ ns ≡ var ∷ rest → (n ≡ var) × (ns ≡ rest)
same-rest n var ns rest is = (cc, cc)

is-empty : (set : List ℕ) → length set ≡ 0 → set ≡ []
is-empty [] none = refl
is-empty (n ∷ ns) none = absurd (omega (arith, none))

not-empty : (var : ℕ) (rest : List ℕ) → [] ≡ var ∷ rest → ⊥
not-empty var rest is = cc

-- the first number of a set is not less than the least of its family
first-least : (family : Family) (n : ℕ) (ns : List ℕ) → Contains family (n ∷ ns) → least_number family ≤ n
unfolding least_of
first-least family n ns here = let low : least_number family ≤ least_of (n ∷ ns) = least-member family (n ∷ ns) here in omega arith

-- a set that begins with a smaller number is not there
pub none-below : (family : Family) (set ns : List ℕ) (n : ℕ) → set ≡ n ∷ ns → n < least_number family → Contains family set → ⊥
none-below family set ns n is less here = let low = first-least family n ns (subst (Contains family) is here) in absurd (omega (arith, less, low))

module _ (family lo hi : Family) (var : ℕ) (made : family ≡ branch var lo hi) where
  -- the empty set stands among those without the variable
  pub empty-below : (set : List ℕ) → length set ≡ 0 → Contains lo set ↔ Contains family set
  empty-below set none = (
    (λ here. subst (λ f. Contains f set) (sym made) (lo_in_branch var lo hi set here)),
    (λ here. by (branch_member var lo hi set (subst (λ f. Contains f set) made here))),
  )
    where
      by : Contains lo set ⊎ WithVar var hi set → Contains lo set
      by (inl here) = here
      by (inr with) = absurd (not-empty var with.rest (sym (is-empty set none) ∙ with.is))

  -- a set that begins with the variable stands among those with it
  pub first-there : (set ns : List ℕ) (n : ℕ) → set ≡ n ∷ ns → n ≡ var → var < least_number lo → Contains hi ns ↔ Contains family set
  first-there set ns n is same above = (
    (λ here. subst (λ f. Contains f set) (sym made) (subst (Contains (branch var lo hi)) (ap (λ m. m ∷ ns) (sym same) ∙ sym is) (hi_in_branch var lo hi ns here))),
    (λ here. by (branch_member var lo hi set (subst (λ f. Contains f set) made here))),
  )
    where
      by : Contains lo set ⊎ WithVar var hi set → Contains hi ns
      by (inl here) = let low = first-least lo n ns (subst (Contains lo) is here) in absurd (omega (arith, low, above, same))
      by (inr with) = subst (Contains hi) (sym (same-rest n var ns with.rest (sym is ∙ with.is)).1) with.member

  -- and a set that begins with another number among those without
  pub first-elsewhere : (set ns : List ℕ) (n : ℕ) → set ≡ n ∷ ns → (n ≢ var) → Contains lo set ↔ Contains family set
  first-elsewhere set ns n is other = (
    (λ here. subst (λ f. Contains f set) (sym made) (lo_in_branch var lo hi set here)),
    (λ here. by (branch_member var lo hi set (subst (λ f. Contains f set) made here))),
  )
    where
      by : Contains lo set ⊎ WithVar var hi set → Contains lo set
      by (inl here) = here
      by (inr with) = absurd (other (same-rest n var ns with.rest (sym is ∙ with.is)).0)

-- one after the other
pub both-ways : {A B C : Type 0} → (A ↔ B) → (B ↔ C) → A ↔ C
both-ways first second = ((λ a. second.0 (first.0 a)), (λ c. first.1 (second.1 c)))

-- what is false is not there
pub not-there : {A : Type 0} → (A → ⊥) → IsTrue false ↔ A
not-there none = ((λ e. absurd (false≢true e)), (λ a. absurd (none a)))
