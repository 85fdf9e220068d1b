use Rattle.std.proofs.Common.{◌-◌, ◌+◌, ◌*◌, min}
use Rattle.zdd_store.specs.inner.Family.{least_number}
use Rattle.zdd_store.specs.inner.Store.{family_of}
use Rattle.zdd_families.proofs.union.+union.Given as goal

abbrev pub decreases-union_sets : goal.decreases-union_sets
decreases-union_sets l = 2 * (4294967296 - min (least_number (family_of l.store.now l.a)) (least_number (family_of l.store.now l.b))) + 1

abbrev pub decreases-union_anew : goal.decreases-union_anew
decreases-union_anew l = 2 * (4294967296 - min (least_number (family_of l.store.now l.a)) (least_number (family_of l.store.now l.b)))
