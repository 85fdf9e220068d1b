use Rattle.std.proofs.Common.{◌-◌}
use Rattle.zdd_store.specs.inner.Family.{least_number}
use Rattle.zdd_store.specs.inner.Store.{family_of}
use Rattle.listing_changes.proofs.containing.+has_set.Given as goal

abbrev pub decreases-has_set : goal.decreases-has_set
decreases-has_set l = 4294967296 - least_number (family_of l.store.now l.id)
