use Rattle.std.proofs.Common.{◌-◌}
use Rattle.zdd_store.specs.inner.Family.{least_number}
use Rattle.zdd_store.specs.inner.Store.{family_of}
use Rattle.family_renaming.proofs.by_listing.+with_empty.Given as goal

abbrev pub decreases-with_empty : goal.decreases-with_empty
decreases-with_empty l = 4294967296 - least_number (family_of l.store.now l.id)
