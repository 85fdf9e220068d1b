use Rattle.std.proofs.Common.{◌-◌}
use Rattle.zdd_store.specs.inner.Family.{least_number}
use Rattle.zdd_store.specs.inner.Store.{family_of}
use Rattle.zdd_families.proofs.sizes.+sets_within.Given as goal

abbrev pub decreases-sets_within : goal.decreases-sets_within
decreases-sets_within l = 4294967296 - least_number (family_of l.store.now l.a)
