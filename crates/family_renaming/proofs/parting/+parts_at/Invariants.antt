use Rattle.std.proofs.Common.{◌-◌}
use Rattle.zdd_store.specs.inner.Family.{least_number}
use Rattle.zdd_store.specs.inner.Store.{family_of}
use Rattle.family_renaming.proofs.parting.+parts_at.Given as goal

abbrev pub decreases-parts_at : goal.decreases-parts_at
decreases-parts_at l = 4294967296 - least_number (family_of l.store.now l.id)
