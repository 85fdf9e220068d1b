use Rattle.std.proofs.Common.{◌-◌}
use Rattle.zdd_store.specs.inner.Family.{least_number}
use Rattle.zdd_store.specs.inner.Store.{family_of}
use Rattle.family_renaming.proofs.from_top.+least.Given as goal

abbrev pub decreases-least : goal.decreases-least
decreases-least l = 4294967296 - least_number (family_of l.store.now l.id)
