-- The parts of families at a variable, of which that with the variable covers what the other does.
use Rattle.std.specs.Prelude.{ℕ, ◌<◌, ◌≡◌, List, Result, IfOk, IsTrue}
use Rattle.std.specs.declared.alloc.AllocError.{AllocError}
use Rattle.zdd_store.specs.inner.Family.{Family, least_number, covers}
use Rattle.zdd_store.specs.inner.Store.{Families, IsIn, family_of, Keeps}
use Rattle.zdd_store.specs.declared.id.Id.{Id}
use Rattle.zdd_families.specs.inner.Steps.{joined}
use Rattle.zdd_families.specs.declared.split.Parts.{Parts}
use Rattle.zdd_families.specs.declared.wide.BothParts.{BothParts}

-- the parts of a family at a variable: what it covers without the variable, and what it covers with it, which is no less
pub record ArePartsOf (store : Families) (family : Family) (var : ℕ) (parts : Parts) : Type 0 where
  pub lo_in : IsIn store parts.lo
  pub hi_in : IsIn store parts.hi
  pub lo_greater : var < least_number (family_of store parts.lo)
  pub hi_greater : var < least_number (family_of store parts.hi)
  pub covering : (set : List ℕ) → covers family set ≡ joined var (family_of store parts.lo) (family_of store parts.hi) set
  pub rises : (set : List ℕ) → IsTrue (covers (family_of store parts.lo) set) → IsTrue (covers (family_of store parts.hi) set)

-- each number keeps its family, and where memory sufficed these are the parts
pub record PartsMade (before after : Families) (id : Id) (var : ℕ) (result : Result Parts AllocError) : Type 0 where
  pub kept : Keeps before after
  pub parts : IfOk result (ArePartsOf after (family_of before id) var)

-- the parts of two families
pub record AreBothParts (store : Families) (a b : Family) (var : ℕ) (parts : BothParts) : Type 0 where
  pub first : ArePartsOf store a var parts.first
  pub second : ArePartsOf store b var parts.second

-- each number keeps its family, and where memory sufficed these are the parts of the two
pub record BothMade (before after : Families) (a b : Id) (var : ℕ) (result : Result BothParts AllocError) : Type 0 where
  pub kept : Keeps before after
  pub parts : IfOk result (AreBothParts after (family_of before a) (family_of before b) var)
