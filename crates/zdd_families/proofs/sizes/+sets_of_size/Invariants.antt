use Rattle.std.proofs.Common.{◌-◌}
use Rattle.zdd_store.specs.inner.Family.{least_number}
use Rattle.zdd_store.specs.inner.Store.{family_of}
use Rattle.zdd_families.proofs.sizes.+sets_of_size.Given as goal

abbrev pub decreases-sets_of_size : goal.decreases-sets_of_size
decreases-sets_of_size l = 4294967296 - least_number (family_of l.store.now l.a)
