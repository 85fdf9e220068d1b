use Rattle.std.proofs.Common.{◌-◌}
use Rattle.zdd_store.specs.inner.Family.{least_number}
use Rattle.zdd_store.specs.inner.Store.{family_of}
use Rattle.family_renaming.proofs.by_listing.+list_sets.Given as goal

abbrev pub decreases-list_sets : goal.decreases-list_sets
decreases-list_sets l = 4294967296 - least_number (family_of l.store.now l.id)
