-- The names of packages and of classifiers, and when two of them are the same.
use Rattle.std.specs.Prelude.{ℕ, ◌-◌, Bool, List, [], ◌∷◌, length, take, slice_get, Option, Some, None}
use Rattle.std.specs.Option.{option_eq}
use Rattle.std.specs.Cmp.Lexicographic.{pointwise}
use Rattle.plain_values.specs.Name.{is_same_text}

-- whether two names of packages are the same: they have the same identifiers in the same order
abbrev pub is_same_name : List (List ℕ) → List (List ℕ) → Bool
is_same_name = pointwise is_same_text

-- whether two classifiers have the same item: none, or the same identifier after the dot
abbrev pub is_same_item : Option (List ℕ) → Option (List ℕ) → Bool
is_same_item = option_eq is_same_text

-- the names before the last
abbrev pub front : List (List ℕ) → List (List ℕ)
front names = take (length names - 1) names

-- the last name
abbrev pub last : List (List ℕ) → Option (List ℕ)
last names = slice_get names (length names - 1)

-- the name, where it is one identifier
abbrev pub only : List (List ℕ) → Option (List ℕ)
only [] = None
only (name ∷ []) = Some name
only (name ∷ other ∷ names) = None
