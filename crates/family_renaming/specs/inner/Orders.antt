-- Tables of which one has the places of the other's numbers.
use Rattle.std.specs.Prelude.{ℕ, ◌<◌, ◌≡◌, List, length, slice_get, slice_index_or, Some}

-- at each number of the one table the other has the place at which it stands
abbrev pub Undoes : List ℕ → List ℕ → Type 0
Undoes there back = (place number : ℕ) → slice_get there place ≡ Some number → slice_get back number ≡ Some place

-- at each event of the list, from the first places on, that is in the table's range, the table has a place at which it stands
abbrev pub HasPlaces : List ℕ → ℕ → List ℕ → Type 0
HasPlaces events count table =
    (place event : ℕ) → place < count → slice_get events place ≡ Some event → event < length table
    → slice_get events (slice_index_or table event 0) ≡ Some event
