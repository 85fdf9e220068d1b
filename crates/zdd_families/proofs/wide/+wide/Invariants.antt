use Rattle.std.proofs.Common.{◌-◌, ◌+◌, ◌*◌, min}
use Rattle.zdd_store.specs.inner.Family.{least_number}
use Rattle.zdd_store.specs.inner.Store.{family_of}
use Rattle.zdd_families.proofs.wide.+wide.Given as goal

abbrev pub decreases-wide_parts : goal.decreases-wide_parts
decreases-wide_parts l = 5 * (4294967296 - l.var)

abbrev pub decreases-both_parts : goal.decreases-both_parts
decreases-both_parts l = 5 * (4294967296 - l.var) + 1

abbrev pub decreases-union_wide_anew : goal.decreases-union_wide_anew
decreases-union_wide_anew l = 5 * (4294967296 - min (least_number (family_of l.store.now l.a)) (least_number (family_of l.store.now l.b))) + 2

abbrev pub decreases-union_wide : goal.decreases-union_wide
decreases-union_wide l = 5 * (4294967296 - min (least_number (family_of l.store.now l.a)) (least_number (family_of l.store.now l.b))) + 3
