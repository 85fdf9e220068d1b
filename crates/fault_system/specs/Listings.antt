-- The order of listed sets, the listing of a target's minimal cut sets, and its pages.
use Rattle.std.specs.Prelude.{ℕ, ◌≤◌, ◌↔◌, Bool, false, List, [], ◌∷◌, length, take, filter, Option, None, Some, IfSome, Contains, IsTrue, nat_lt, ◌==◌, ◌&&◌, ◌||◌}
use Rattle.std.specs.List.{AllByRecursion}
use Rattle.fault_system.specs.Systems.{System}
use Rattle.fault_system.specs.CutSets.{IsMinimalCutSet}

-- at the first place where the two differ, a has the smaller number
abbrev pub is_lower : List ℕ → List ℕ → Bool
is_lower [] b = false
is_lower (x ∷ xs) [] = false
is_lower (x ∷ xs) (y ∷ ys) = nat_lt x y || ((x == y) && is_lower xs ys)

-- the listing order: fewer events first, then the smaller number at the first place where the rising lists differ
abbrev pub is_before : List ℕ → List ℕ → Bool
is_before a b = nat_lt (length a) (length b) || ((length a == length b) && is_lower a b)

abbrev pub IsBefore : List ℕ → List ℕ → Type 0
IsBefore a b = IsTrue (is_before a b)

-- each set is before all that follow it
abbrev pub IsInListingOrder : List (List ℕ) → Type 0
IsInListingOrder [] = Unit {0}
IsInListingOrder (set ∷ sets) = AllByRecursion (IsBefore set) sets × IsInListingOrder sets

-- the set has at most so many events, where a greatest order is given
abbrev pub IsWithinOrder : Option ℕ → List ℕ → Type 0
IsWithinOrder most set = IfSome most (λ k. length set ≤ k)

-- the listing of a target: exactly its minimal cut sets, of at most `most` events where that is given, in listing order
pub record IsListing (system : System) (target : ℕ) (most : Option ℕ) (sets : List (List ℕ)) : Type 0 where
  pub exact : (set : List ℕ) → Contains sets set ↔ (IsMinimalCutSet system target set × IsWithinOrder most set)
  pub ordered : IsInListingOrder sets

-- the sets of a listing that a given set is before; all of them where none is given
abbrev pub sets_after : Option (List ℕ) → List (List ℕ) → List (List ℕ)
sets_after None sets = sets
sets_after (Some after) sets = filter (is_before after) sets

-- at most so many of the first sets, or all where there is no limit
abbrev pub first_of : Option ℕ → List (List ℕ) → List (List ℕ)
first_of None sets = sets
first_of (Some limit) sets = take limit sets

-- whether there are more sets than the limit
abbrev pub has_more : Option ℕ → List (List ℕ) → Bool
has_more None sets = false
has_more (Some limit) sets = nat_lt limit (length sets)
