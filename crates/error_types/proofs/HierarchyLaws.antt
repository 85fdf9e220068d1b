-- Which types are below which, and what names of types mean.
use Rattle.std.proofs.Common.{ℕ, zero, suc, ◌≡◌, Bool, true, false, ◌&&◌, ◌||◌, nat_eq, nat_lt, List, [], ◌∷◌, length, map, slice_get, Option, filter, option_and_then, refl, ap, ◌∙◌}
use Rattle.std.proofs.lemmas.Bool.Decides.{Decides-eqb}
use Rattle.aadl_syntax.specs.declared.place.Ref.{Ref}
use Rattle.error_libraries.specs.declared.scope.Scope.{Scope}
use Rattle.error_libraries.specs.Libraries.{Table}
use Rattle.error_libraries.specs.Search.{named}
use Rattle.std.specs.List.{list_any}
use Rattle.aadl_syntax.specs.declared.error_model.TypeSet.{TypeSet}
use Rattle.error_types.specs.Types.{base_of, denoted, is_base_so, is_below, is_below_in, type_at, type_named}
use Rattle.error_types.specs.inner.Types.{is_below_by}
use Rattle.plain_values.specs.Numbered.{numbers_below}
use Rattle.error_types.specs.Walk.{set_types}

-- ---- one step

module _ (next : ℕ → Option ℕ) (high : ℕ) where
  pub one-step : (steps one low : ℕ) → steps ≡ suc one → is_below_in steps next low high ≡ (nat_eq low high || is_base_so (λ number. is_below_in one next number high) (next low))
  unfolding is_below_in
  one-step steps one low more = ap (λ n. is_below_in n next low high) more

  pub no-step : (steps low : ℕ) → steps ≡ 0 → is_below_in steps next low high ≡ nat_eq low high
  unfolding is_below_in
  no-step steps low none = ap (λ n. is_below_in n next low high) none

-- ---- names of types

pub named-step : (table : Table) (scope : Scope) (reference : Ref) (steps one : ℕ) → steps ≡ suc one → type_named steps table scope reference ≡ type_at (type_named one table) table (named table scope reference).target
unfolding type_named
named-step table scope reference steps one more = ap (λ n. type_named n table scope reference) more

-- ---- the list of bases

listed : {A : Type 0} (f : A → Option ℕ) (xs : List A) (n : ℕ) → option_and_then (λ base. base) (slice_get (map f xs) n) ≡ option_and_then f (slice_get xs n)
listed f [] n = refl
listed f (x ∷ xs) zero = refl
listed f (x ∷ xs) (suc n) = listed f xs n

long : {A B : Type 0} (f : A → B) (xs : List A) → length (map f xs) ≡ length xs
long f [] = refl
long f (x ∷ xs) = ap suc (long f xs)

pub by-bases : (table : Table) (bases : List (Option ℕ)) → bases ≡ map (base_of table) table.types → (low high : ℕ) → is_below_by bases low high ≡ is_below table low high
by-bases table bases is low high =
    ap (λ list. is_below_by list low high) is
    ∙ (λ i. (nat_lt low (long (base_of table) table.types i) && nat_lt high (long (base_of table) table.types i)) && is_below_in (long (base_of table) table.types i) (λ n. listed (base_of table) table.types n i) low high)

pub as-many : (table : Table) (bases : List (Option ℕ)) → bases ≡ map (base_of table) table.types → length bases ≡ length table.types
as-many table bases is = ap length is ∙ long (base_of table) table.types

-- ---- numbers

pub is-same : (a b : ℕ) → a ≡ b → nat_eq a b ≡ true
is-same a b same = (Decides-eqb a b).1 same

pub is-other : (a b : ℕ) → (a ≡ b → ⊥) → nat_eq a b ≡ false
is-other a b apart = told (nat_eq a b) refl
  where
    told : (test : Bool) → nat_eq a b ≡ test → test ≡ false
    told true is = absurd (apart ((Decides-eqb a b).0 is))
    told false is = refl

-- ---- written sets

pub denoted-by : (table : Table) (scope : Scope) (set : TypeSet) (bases : List (Option ℕ)) (types : List ℕ) → bases ≡ map (base_of table) table.types → types ≡ set_types table scope set
    → filter (λ low. list_any (is_below_by bases low) types) (numbers_below (length bases)) ≡ denoted table scope set
denoted-by table scope set bases types is same = λ i. filter (λ low. list_any (λ high. by-bases table bases is low high i) (same i)) (numbers_below (as-many table bases is i))
