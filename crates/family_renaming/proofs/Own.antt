-- The order in which each number is its own name.
use Rattle.std.proofs.Common.{◌≡◌, ◌<◌, ◌≤◌, ◌⊎◌, ℕ, List, [], ◌∷◌, Some, length, slice_index_or, refl, sym, ap, ◌∙◌, inl, inr}
use Rattle.std.specs.Prelude.{◌||◌}
use Rattle.std.specs.List.{list_any, AllByRecursion}
use Rattle.std.proofs.lemmas.Bool.{cases_lt}
use Rattle.std.proofs.lemmas.Option.{slice_get-get_or}
use Rattle.zdd_store.specs.inner.Family.{Family, IsRising}
use Rattle.zdd_families.specs.inner.Unions.{with_number}
use Rattle.family_renaming.specs.inner.Renaming.{name_of, renamed, AreRenamed, NamesItself}
use Rattle.family_renaming.proofs.Firsts.{with_first}
use Rattle.family_renaming.proofs.Permutations.{at_place, past_end}

-- a table with each number at its place names each number itself, and no other table does
pub names_own : (names : List ℕ) → ((k : ℕ) → k < length names → slice_index_or names k 0 ≡ k) → NamesItself names
names_own names at n = by (cases_lt n (length names))
  where
    by : (n < length names) ⊎ (length names ≤ n) → name_of names n ≡ n
    by (inl h) = at_place names n n n (slice_get-get_or names n 0 h ∙ ap Some (at n h))
    by (inr h) = past_end names n n h

pub own_at : (names : List ℕ) (k : ℕ) → NamesItself names → k < length names → slice_index_or names k 0 ≡ k
own_at names k own h = at_place names k k 0 (slice_get-get_or names k k h ∙ ap Some (own k))

module _ (names : List ℕ) (own : NamesItself names) where
  own_set : (set : List ℕ) → IsRising set → renamed names set ≡ set
  unfolding IsRising
  own_set [] up = refl
  own_set (n ∷ ns) up = ap (λ m. with_number m (renamed names ns)) (own n) ∙ ap (with_number n) (own_set ns up.1) ∙ with_first n ns up.0

  -- a family is itself renamed
  pub own_family : (family : Family) → AllByRecursion IsRising family → AreRenamed names family family
  own_family [] up test = refl
  own_family (set ∷ sets) up test = ap (λ b. test set || b) (own_family sets up.1 test) ∙ ap (λ s. test s || list_any (λ t. test (renamed names t)) sets) (sym (own_set set up.0))
