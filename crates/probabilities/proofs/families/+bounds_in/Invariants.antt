use Rattle.std.proofs.Common.{◌-◌}
use Rattle.zdd_store.specs.inner.Family.{least_number}
use Rattle.zdd_store.specs.inner.Store.{family_of}
use Rattle.probabilities.proofs.families.+bounds_in.Given as goal

abbrev pub decreases-bounds_in : goal.decreases-bounds_in
decreases-bounds_in l = 4294967296 - least_number (family_of l.store.now l.id)
