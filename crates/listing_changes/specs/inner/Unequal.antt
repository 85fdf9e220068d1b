-- A minimal cut set that has no equal in another system.
use Rattle.std.specs.Prelude.{ℕ, ◌↔◌, Contains, List, Option}
use Rattle.fault_system.specs.Systems.{System}
use Rattle.fault_system.specs.CutSets.{IsMinimalCutSet}
use Rattle.fault_system.specs.Listings.{IsWithinOrder}
use Rattle.listing_changes.specs.Changes.{names_of}

-- a minimal cut set of the one target, of at most so many events where a greatest order is given, of which no such set of the other
-- target has the same names
pub record HasNoEqual (here : System) (target : ℕ) (there : System) (other_target : ℕ) (most : Option ℕ) (set : List ℕ) : Type 0 where
  pub minimal : IsMinimalCutSet here target set
  pub within : IsWithinOrder most set
  pub alone : (other : List ℕ) → IsMinimalCutSet there other_target other → IsWithinOrder most other
      → ((name : List ℕ) → Contains (names_of here set) name ↔ Contains (names_of there other) name) → ⊥
