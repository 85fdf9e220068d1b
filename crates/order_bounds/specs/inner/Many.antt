-- Families of sets with one event alone.
use Rattle.std.specs.Prelude.{ℕ, ◌≡◌, List, All, map}
use Rattle.zdd_store.specs.inner.Store.{Families, IsIn}
use Rattle.zdd_store.specs.inner.Family.{has}
use Rattle.zdd_store.specs.declared.id.Id.{Id}
use Rattle.cutset_engine.specs.inner.Gates.{covers_each}

-- the numbers of a store have families of which each covers the sets with one of these events
pub record AreAlone (store : Families) (events : List ℕ) (ids : List Id) : Type 0 where
  pub found : All (IsIn store) ids
  pub covering : (set : List ℕ) → covers_each store ids set ≡ map (has set) events
