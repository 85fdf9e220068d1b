use Rattle.std.proofs.Common.{◌-◌}
use Rattle.zdd_store.specs.inner.Family.{least_number}
use Rattle.zdd_store.specs.inner.Store.{family_of}
use Rattle.zdd_families.proofs.minimal.+minimal_sets.Given as goal

abbrev pub decreases-minimal_sets : goal.decreases-minimal_sets
decreases-minimal_sets l = 4294967296 - least_number (family_of l.store.now l.a)
