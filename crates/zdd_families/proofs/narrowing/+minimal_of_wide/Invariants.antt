use Rattle.std.proofs.Common.{◌-◌}
use Rattle.zdd_store.specs.inner.Family.{least_number}
use Rattle.zdd_store.specs.inner.Store.{family_of}
use Rattle.zdd_families.proofs.narrowing.+minimal_of_wide.Given as goal

abbrev pub decreases-minimal_of_wide : goal.decreases-minimal_of_wide
decreases-minimal_of_wide l = 4294967296 - least_number (family_of l.store.now l.a)
