-- Families that stand in another store too.
use Rattle.std.specs.Prelude.{◌≡◌, Option, Some, Result, IfOk}
use Rattle.std.specs.declared.alloc.AllocError.{AllocError}
use Rattle.zdd_store.specs.inner.Family.{Family}
use Rattle.zdd_store.specs.inner.Store.{Families, IsIn, family_of, Keeps}
use Rattle.zdd_store.specs.declared.id.Id.{Id}

-- a number of the store that stands for a family
pub record IsCopy (store : Families) (family : Family) (id : Id) : Type 0 where
  pub found : IsIn store id
  pub same : family_of store id ≡ family

-- the copies that are known are right
abbrev pub KnowsCopies : Families → Families → (Id → Option Id) → Type 0
KnowsCopies from to known = (id copy : Id) → known id ≡ Some copy → IsCopy to (family_of from id) copy

-- each number keeps its family, and where memory sufficed the answer stands for the family
pub record Copied (from before after : Families) (id : Id) (result : Result Id AllocError) : Type 0 where
  pub kept : Keeps before after
  pub copy : IfOk result (IsCopy after (family_of from id))
