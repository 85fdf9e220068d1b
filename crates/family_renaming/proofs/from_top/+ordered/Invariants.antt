use Rattle.std.proofs.Common.{◌-◌}
use Rattle.zdd_store.specs.inner.Store.{family_of}
use Rattle.family_renaming.specs.inner.Splitting.{least_event}
use Rattle.family_renaming.proofs.from_top.+ordered.Given as goal

abbrev pub decreases-ordered : goal.decreases-ordered
decreases-ordered l = 4294967296 - least_event l.order.now.events (family_of l.store.now l.id)
