-- The minimal cut sets of a target as a family.
use Rattle.std.specs.Prelude.{ℕ, ◌≡◌, ◌↔◌, List, Contains, Option, None, Some}
use Rattle.std.specs.List.{AllByRecursion}
use Rattle.fault_system.specs.Systems.{System}
use Rattle.fault_system.specs.CutSets.{IsMinimalCutSet}
use Rattle.fault_system.specs.Listings.{IsWithinOrder}
use Rattle.backward_slice.specs.Slices.{IsSlice}
use Rattle.cutset_engine.specs.declared.setting.Asked.{Asked}
use Rattle.zdd_store.specs.inner.Family.{Family, covers, IsRising, IsAntichain}
use Rattle.zdd_store.specs.inner.Answers.{sets_up_to}
use Rattle.zdd_store.specs.inner.Store.{Families, IsIn, family_of}
use Rattle.zdd_store.specs.declared.id.Id.{Id}

-- the family has exactly the minimal cut sets of a target, of at most so many events where a greatest order is given
abbrev pub HasMinimalCutSets : System → ℕ → Option ℕ → Family → Type 0
HasMinimalCutSets system target most family =
    (set : List ℕ) → Contains family set ↔ (IsMinimalCutSet system target set × IsWithinOrder most set)

-- what is asked is asked of a slice of its target
abbrev pub IsAskedOfSlice : Asked → Type 0
IsAskedOfSlice asked = IsSlice asked.system.now asked.slice.now.target asked.slice.now

-- the family has exactly the minimal cut sets that are asked for
abbrev pub HasAsked : Asked → Family → Type 0
HasAsked asked family = HasMinimalCutSets asked.system.now asked.slice.now.target asked.most family

-- of a family, the sets of at most so many numbers; all where no greatest order is given
abbrev pub sets_to : Option ℕ → Family → Family
sets_to None family = family
sets_to (Some most) family = sets_up_to most family

-- the family of the answer covers what another covers, within the greatest order; its sets rise, none is within another, and
-- each is within the order
pub record IsLeast (before after : Families) (most : Option ℕ) (id answer : Id) : Type 0 where
  pub found : IsIn after answer
  pub rising : AllByRecursion IsRising (family_of after answer)
  pub apart : IsAntichain (family_of after answer)
  pub short : (set : List ℕ) → Contains (family_of after answer) set → IsWithinOrder most set
  pub right : (set : List ℕ) → IsWithinOrder most set → covers (family_of after answer) set ≡ covers (family_of before id) set
