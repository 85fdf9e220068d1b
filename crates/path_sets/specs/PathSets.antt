-- Path sets of a target, and the minimal ones (NUREG-0492): what must be kept from occurring so that the target does not hold.
use Rattle.std.specs.Prelude.{ℕ, ◌≡◌, ◌⊎◌, ◌↔◌, List, Option, Contains}
use Rattle.plain_values.specs.declared.refusal.Refusal.{Refusal}
use Rattle.fault_system.specs.Truth.{Has, set_of}
use Rattle.fault_system.specs.Systems.{System}
use Rattle.fault_system.specs.CutSets.{IsEventSet, IsCutSet, IsSubset}
use Rattle.fault_system.specs.Listings.{IsInListingOrder, IsWithinOrder}
use Rattle.backward_slice.specs.Slices.{HasLargeSlice}
use Rattle.round_gates.specs.Targets.{HasLargeTree, IsTreeFor}
use Rattle.round_gates.specs.declared.tree.Tree.{Tree}
use Rattle.path_sets.specs.Duals.{dual_of}
use Rattle.path_sets.specs.GateSystems.{gate_system_of}

-- two sets have a number in common
abbrev pub Meets : List ℕ → List ℕ → Type 0
Meets a b = (n : ℕ) × Has (set_of a) n × Has (set_of b) n

-- a path set of a target is a set of events that has one of each cut set
abbrev pub IsPathSet : System → ℕ → List ℕ → Type 0
IsPathSet system target set = IsEventSet system set × ((cut : List ℕ) → IsCutSet system target cut → Meets set cut)

-- a path set is minimal if no proper subset of it is a path set
abbrev pub IsMinimalPathSet : System → ℕ → List ℕ → Type 0
IsMinimalPathSet system target set =
    IsPathSet system target set × ((other : List ℕ) → IsPathSet system target other → IsSubset other set → other ≡ set)

-- the path listing of a target: exactly its minimal path sets, of at most `most` events where that is given, in listing order
pub record IsPathListing (system : System) (target : ℕ) (most : Option ℕ) (sets : List (List ℕ)) : Type 0 where
  pub exact : (set : List ℕ) → Contains sets set ↔ (IsMinimalPathSet system target set × IsWithinOrder most set)
  pub ordered : IsInListingOrder sets

-- M10, M11: the slice of the top in the dual of the gates of the target's tree is too large, and this is the refusal.
abbrev pub HasLargeDual : System → ℕ → Refusal → Type 0
HasLargeDual system target refusal =
    (tree : Tree) × IsTreeFor system target tree × HasLargeSlice (dual_of (gate_system_of system tree)) tree.top refusal

-- The path sets of a target are refused, and this is the refusal: its tree may be too large (M12), or its dual's slice is.
abbrev pub HasLargePaths : System → ℕ → Refusal → Type 0
HasLargePaths system target refusal = HasLargeTree system target refusal ⊎ HasLargeDual system target refusal
