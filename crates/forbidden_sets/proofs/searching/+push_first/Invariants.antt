use Rattle.std.proofs.Common.{◌-◌}
use Rattle.zdd_store.specs.inner.Family.{least_number}
use Rattle.zdd_store.specs.inner.Store.{family_of}
use Rattle.forbidden_sets.proofs.searching.+push_first.Given as goal

abbrev pub decreases-push_first : goal.decreases-push_first
decreases-push_first l = 4294967296 - least_number (family_of l.store.now l.id)
