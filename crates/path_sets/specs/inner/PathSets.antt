-- Beside specs/PathSets.antt: what no clause of `run` reaches.
use Rattle.std.specs.Prelude.{ℕ, ◌≡◌, ◌↔◌, Bool, true, false, List, [], ◌∷◌, Option, Contains}
use Rattle.fault_system.specs.Systems.{System}
use Rattle.fault_system.specs.Listings.{IsWithinOrder}
use Rattle.backward_slice.specs.Slices.{IsServed}
use Rattle.backward_slice.specs.declared.parts.Slice.{Slice}
use Rattle.zdd_store.specs.inner.Family.{Family}
use Rattle.path_sets.specs.PathSets.{IsMinimalPathSet}

-- the minimal path sets of a constant target: none where it always holds, and the empty set alone where it never does
abbrev pub constant_paths : Bool → List (List ℕ)
constant_paths true = []
constant_paths false = [] ∷ []

-- the family has exactly the minimal path sets of a target, of at most so many events where a greatest order is given
abbrev pub HasMinimalPathSets : System → ℕ → Option ℕ → Family → Type 0
HasMinimalPathSets system target most family =
    (set : List ℕ) → Contains family set ↔ (IsMinimalPathSet system target set × IsWithinOrder most set)

-- the events on which a target depends, where its slice is not too large
abbrev pub AreServedEvents : System → ℕ → List ℕ → Type 0
AreServedEvents system target events = (slice : Slice) × IsServed system target slice × (events ≡ slice.events)
