-- What the sets of a system are compared with.
use Rattle.std.specs.Prelude.{ℕ, ◌≡◌, List, Contains}
use Rattle.fault_system.specs.CutSets.{IsEventSet}
use Rattle.zdd_store.specs.inner.Store.{IsIn, family_of}
use Rattle.listing_changes.specs.inner.Numbers.{numbers_there}
use Rattle.listing_changes.specs.declared.comparison.Comparison.{Comparison}

-- the numbers are those that the other system has for the events of this one, and the family is one of sets of its events
pub record IsComparison (comparison : Comparison) : Type 0 where
  pub numbers : comparison.numbers.now ≡ numbers_there comparison.here.now comparison.there.now
  pub found : IsIn comparison.store.now comparison.sets
  pub sets_are : (set : List ℕ) → Contains (family_of comparison.store.now comparison.sets) set → IsEventSet comparison.there.now set
