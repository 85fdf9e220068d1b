-- Families of which a page is that of a target's listing, though they may have its first sets alone.
use Rattle.std.specs.Prelude.{ℕ, List, Option, Contains}
use Rattle.fault_system.specs.Systems.{System}
use Rattle.fault_system.specs.CutSets.{IsMinimalCutSet}
use Rattle.fault_system.specs.Listings.{IsListing, first_of, has_more, sets_after}
use Rattle.fault_system.specs.inner.Listings.{IsPage}
use Rattle.zdd_store.specs.inner.Family.{Family}
use Rattle.cutset_engine.specs.declared.setting.Asked.{Asked}
use Rattle.cutset_writer.specs.inner.Pages.{Lists}

-- The page of these sets is that of the target's listing.
pub record GivesPage (system : System) (target : ℕ) (most : Option ℕ) (start : Option (List ℕ)) (limit : Option ℕ) (sets : List (List ℕ)) : Type 0 where
  pub whole : List (List ℕ)
  pub listing : IsListing system target most whole
  pub page : IsPage whole start limit (first_of limit (sets_after start sets)) (has_more limit (sets_after start sets))

-- A family has minimal cut sets of a target alone, and in listing order the page of them is that of the target's listing.
pub record ServesPage (system : System) (target : ℕ) (most : Option ℕ) (start : Option (List ℕ)) (limit : Option ℕ) (family : Family) : Type 0 where
  pub minimal : (set : List ℕ) → Contains family set → IsMinimalCutSet system target set
  pub page : (sets : List (List ℕ)) → Lists family sets → GivesPage system target most start limit sets

-- the same, for the target and the greatest order that are asked for
abbrev pub ServesAsked : Asked → Option (List ℕ) → Option ℕ → Family → Type 0
ServesAsked asked start limit family = ServesPage asked.system.now asked.slice.now.target asked.most start limit family
