-- Families of minimal cut sets that a sentence forbids.
use Rattle.std.specs.Prelude.{ℕ, ◌<◌, ◌≤◌, ◌≡◌, ◌↔◌, ◌⊎◌, false, List, [], ◌∷◌, length, Contains, Option, IsTrue}
use Rattle.fault_system.specs.Systems.{System}
use Rattle.fault_system.specs.CutSets.{IsMinimalCutSet}
use Rattle.fault_system.specs.Listings.{IsBefore, IsWithinOrder}
use Rattle.backward_slice.specs.Slices.{IsSlice}
use Rattle.zdd_store.specs.inner.Family.{Family, IsInOrder, covers, has}
use Rattle.zdd_store.specs.inner.Store.{Families, IsIn, Keeps, family_of}
use Rattle.zdd_store.specs.declared.id.Id.{Id}
use Rattle.std.specs.List.{AllByRecursion}
use Rattle.cutset_engine.specs.inner.Families.{HasMinimalCutSets}
use Rattle.forbidden_sets.specs.declared.found.FoundFamily.{FoundFamily}
use Rattle.forbidden_sets.specs.declared.judged.Judged.{Judged}

-- the target is that of a slice of the system
abbrev pub IsJudged : Judged → Type 0
IsJudged judged = IsSlice judged.system.now judged.slice.now.target judged.slice.now

-- a number of a store has the minimal cut sets of a target, of at most so many events where a greatest order is given
pub record IsFound (system : System) (store : Families) (one : FoundFamily) : Type 0 where
  pub there : IsIn store one.id
  pub exact : HasMinimalCutSets system one.target one.most (family_of store one.id)

-- so has each of these
abbrev pub AreFound : System → Families → List FoundFamily → Type 0
AreFound system store families = AllByRecursion (IsFound system store) families

-- a set contains none of these, and has at most so many events
abbrev pub IsOther : List (List ℕ) → ℕ → List ℕ → Type 0
IsOther parts most set = (covers parts set ≡ false) × (length set ≤ most)

-- the family has exactly the minimal cut sets of at most so many events that contain none of these
abbrev pub HasOthers : System → ℕ → ℕ → List (List ℕ) → Family → Type 0
HasOthers system target most parts family = (set : List ℕ) → Contains family set ↔ (IsMinimalCutSet system target set × IsOther parts most set)

-- the family has exactly the minimal cut sets that have an event
abbrev pub HasThoseWith : System → ℕ → ℕ → Family → Type 0
HasThoseWith system target event family = (set : List ℕ) → Contains family set ↔ (IsMinimalCutSet system target set × IsTrue (has set event))

-- of a family this is the first set in listing order
pub record IsFirstOf (family : Family) (set : List ℕ) : Type 0 where
  pub there : Contains family set
  pub first : (other : List ℕ) → Contains family other → (other ≡ set) ⊎ IsBefore set other

-- it stands first in the family, whose sets are in order
pub record IsHead (family : Family) (set : List ℕ) : Type 0 where
  pub others : Family
  pub whole : family ≡ set ∷ others
  pub ordered : IsInOrder family

-- no set of a family has less than one event, or more than so many
abbrev pub HasSizes : ℕ → Family → Type 0
HasSizes most family = (set : List ℕ) → Contains family set → (0 < length set) × (length set ≤ most)

-- the set of one number
abbrev pub single : ℕ → List ℕ
single number = number ∷ []

-- a store that grew, and a number of it whose family covers what contains one of these sets
pub record Gathers (before after : Families) (sets : List (List ℕ)) (id : Id) : Type 0 where
  pub kept : Keeps before after
  pub found : IsIn after id
  pub covering : (set : List ℕ) → covers (family_of after id) set ≡ covers sets set
