-- Unions of sets, and the families that have exactly the minimal sets of a property.
use Rattle.std.specs.Prelude.{ℕ, zero, suc, ◌≡◌, ◌⊎◌, ◌↔◌, Bool, true, false, ◌&&◌, ◌||◌, List, [], ◌∷◌, Contains, if◌then◌else◌, nat_lt, ◌==◌}
use Rattle.zdd_store.specs.inner.Family.{Family, IsMinimal, covers}

-- a rising list with one more number at its place, where it is not there yet
abbrev pub with_number : ℕ → List ℕ → List ℕ
with_number number [] = number ∷ []
with_number number (n ∷ ns) =
    if nat_lt number n then number ∷ n ∷ ns else if number == n then n ∷ ns else n ∷ with_number number ns

-- the union of two sets, as a rising list: the second with each number of the first
abbrev pub union_of : List ℕ → List ℕ → List ℕ
union_of [] set = set
union_of (n ∷ ns) set = with_number n (union_of ns set)

-- the family has exactly the minimal ones of the sets with a property
abbrev pub HasMinimalSets : Family → (List ℕ → Type 0) → Type 0
HasMinimalSets family Property = (set : List ℕ) → Contains family set ↔ IsMinimal Property set

-- the set is in the one family or in the other
abbrev pub IsInEither : Family → Family → List ℕ → Type 0
IsInEither a b set = Contains a set ⊎ Contains b set

-- the set is the union of a set of the one family and a set of the other
abbrev pub IsUnionOfBoth : Family → Family → List ℕ → Type 0
IsUnionOfBoth a b set = (part : List ℕ) × (other : List ℕ) × Contains a part × Contains b other × (set ≡ union_of part other)

-- the set is the union of one set each of k families at different places of a list
abbrev pub IsUnionOfSome : ℕ → List Family → List ℕ → Type 0
IsUnionOfSome zero families set = set ≡ []
IsUnionOfSome (suc k) [] set = ⊥
IsUnionOfSome (suc k) (family ∷ families) set =
    IsUnionOfSome (suc k) families set
    ⊎ ((part : List ℕ) × (other : List ℕ) × Contains family part × IsUnionOfSome k families other × (set ≡ union_of part other))

-- whether at least k families at different places of a list cover a set
abbrev pub some_of : ℕ → List Family → List ℕ → Bool
some_of zero families set = true
some_of (suc k) [] set = false
some_of (suc k) (family ∷ families) set = some_of (suc k) families set || (covers family set && some_of k families set)
