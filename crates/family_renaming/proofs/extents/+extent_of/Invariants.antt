use Rattle.std.proofs.Common.{◌-◌}
use Rattle.zdd_store.specs.inner.Family.{least_number}
use Rattle.zdd_store.specs.inner.Store.{family_of}
use Rattle.family_renaming.proofs.extents.+extent_of.Given as goal

abbrev pub decreases-extent_of : goal.decreases-extent_of
decreases-extent_of l = 4294967296 - least_number (family_of l.store.now l.id)
