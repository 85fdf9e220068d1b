use Rattle.std.proofs.Common.{◌-◌, min}
use Rattle.zdd_store.specs.inner.Family.{least_number}
use Rattle.zdd_store.specs.inner.Store.{family_of}
use Rattle.zdd_families.proofs.narrowing.+without_wide.Given as goal

abbrev pub decreases-without_wide : goal.decreases-without_wide
decreases-without_wide l = 4294967296 - min (least_number (family_of l.store.now l.a)) (least_number (family_of l.store.now l.b))
