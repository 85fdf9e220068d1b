-- The minimal cut sets of a target, as they are held.
use Rattle.std.specs.Prelude.{ℕ, List, Contains, Option}
use Rattle.std.specs.List.{AllByRecursion}
use Rattle.fault_system.specs.Systems.{System}
use Rattle.fault_system.specs.CutSets.{IsEventSet}
use Rattle.fault_system.specs.Listings.{IsListing}
use Rattle.backward_slice.specs.Slices.{IsSlice}
use Rattle.zdd_store.specs.inner.Family.{HaveSameSets}
use Rattle.zdd_store.specs.inner.Store.{IsIn, family_of}
use Rattle.cutset_lister.specs.inner.Walks.{IsStarted, sets_left}
use Rattle.listing_changes.specs.declared.cuts.Cuts.{Cuts}
use Rattle.listing_changes.specs.declared.side.Side.{Side}

-- a side has the slice of its target
abbrev pub IsSide : Side → Type 0
IsSide side = IsSlice side.system.now side.part.now.target side.part.now

-- the sets that are left to go through are the listing of the target, and the family has the same sets
pub record AreCuts (system : System) (target : ℕ) (most : Option ℕ) (cuts : Cuts) : Type 0 where
  pub found : IsIn cuts.store cuts.sets
  pub started : IsStarted cuts.store cuts.listing
  pub listing : IsListing system target most (sets_left cuts.store cuts.listing)
  pub same : HaveSameSets (sets_left cuts.store cuts.listing) (family_of cuts.store cuts.sets)

-- the sets that are left to go through are sets of events of the system
pub record CanBeTold (cuts : Cuts) : Type 0 where
  pub started : IsStarted cuts.store cuts.listing
  pub sets : AllByRecursion (IsEventSet cuts.system.now) (sets_left cuts.store cuts.listing)

-- the family is one of sets of events of the system
pub record CanBeAsked (cuts : Cuts) : Type 0 where
  pub found : IsIn cuts.store cuts.sets
  pub sets : (set : List ℕ) → Contains (family_of cuts.store cuts.sets) set → IsEventSet cuts.system.now set
