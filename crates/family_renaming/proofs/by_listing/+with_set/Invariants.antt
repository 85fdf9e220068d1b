use Rattle.std.proofs.Common.{◌+◌, ◌-◌, length}
use Rattle.zdd_store.specs.inner.Family.{least_number}
use Rattle.zdd_store.specs.inner.Store.{family_of}
use Rattle.family_renaming.proofs.by_listing.+with_set.Given as goal

abbrev pub decreases-with_set : goal.decreases-with_set
decreases-with_set l = length l.set.now + (4294967296 - least_number (family_of l.store.now l.id))
