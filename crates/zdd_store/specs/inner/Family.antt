-- Families of sets of numbers, and the set a family covers.
use Rattle.std.specs.Prelude.{ℕ, ◌<◌, ◌≡◌, ◌↔◌, Bool, true, false, List, [], ◌∷◌, ◌++◌, map, filter, min, not, Contains, IsTrue, nat_lt, ◌==◌, ◌&&◌, ◌||◌}
use Rattle.std.specs.List.{list_all, list_any, AllByRecursion}

-- A family of sets: each set is written as the rising list of its numbers, and the sets stand in one order
-- (`IsInOrder`), so that families with the same sets are equal lists.
abbrev pub Family : Type 0
Family = List (List ℕ)

-- the sets of `lo`, and, with `var` added, those of `hi`
unfoldable pub branch : ℕ → Family → Family → Family
branch var lo hi = map (λ set. var ∷ set) hi ++ lo

-- the least of some numbers, all below 2 ^ 32; without any it is 2 ^ 32
unfoldable pub least_of : List ℕ → ℕ
least_of [] = 4294967296
least_of (n ∷ ns) = min n (least_of ns)

-- the least number of the sets of a family; without any it is 2 ^ 32
unfoldable pub least_number : Family → ℕ
least_number [] = 4294967296
least_number (set ∷ sets) = min (least_of set) (least_number sets)

-- whether a set has the number
unfoldable pub has : List ℕ → ℕ → Bool
has set number = list_any (λ n. n == number) set

-- whether each number of the one set is in the other
unfoldable pub is_within : List ℕ → List ℕ → Bool
is_within part whole = list_all (has whole) part

-- whether some set of the family is within this set
unfoldable pub covers : Family → List ℕ → Bool
covers family set = list_any (λ part. is_within part set) family

-- the numbers rise, so no number stands twice
unfoldable pub IsRising : List ℕ → Type 0
IsRising [] = Unit {0}
IsRising (n ∷ ns) = (n < least_of ns) × IsRising ns

-- no set of the family is within another one of it
abbrev pub IsAntichain : Family → Type 0
IsAntichain family = (part whole : List ℕ) → Contains family part → Contains family whole → IsTrue (is_within part whole) → part ≡ whole

-- of the sets that a property describes, this one is minimal: it has the property, and no proper subset of it has
abbrev pub IsMinimal : (List ℕ → Type 0) → List ℕ → Type 0
IsMinimal Property set = Property set × ((part : List ℕ) → Property part → IsTrue (is_within part set) → part ≡ set)

-- the sets of a family that contain no set of another
unfoldable pub sets_without : Family → Family → Family
sets_without family others = filter (λ set. not (covers others set)) family

-- whether a set stands before another: at the first place where the two differ it has the smaller number, or it goes on where the other ends
abbrev pub precedes : List ℕ → List ℕ → Bool
precedes [] other = false
precedes (n ∷ ns) [] = true
precedes (n ∷ ns) (m ∷ ms) = nat_lt n m || ((n == m) && precedes ns ms)

-- each set stands before all that follow it, so none stands twice
unfoldable pub IsInOrder : Family → Type 0
IsInOrder [] = Unit {0}
IsInOrder (set ∷ sets) = AllByRecursion (λ other. IsTrue (precedes set other)) sets × IsInOrder sets

-- two families have the same sets
abbrev pub HaveSameSets : Family → Family → Type 0
HaveSameSets family other = (set : List ℕ) → Contains family set ↔ Contains other set
