use Rattle.std.proofs.Common.{◌-◌, ◌+◌, ◌*◌, min}
use Rattle.zdd_store.specs.inner.Family.{least_number}
use Rattle.zdd_store.specs.inner.Store.{family_of}
use Rattle.zdd_families.proofs.product.+product.Given as goal

abbrev pub decreases-product_sets : goal.decreases-product_sets
decreases-product_sets l = 3 * (4294967296 - min (least_number (family_of l.store.now l.a)) (least_number (family_of l.store.now l.b))) + 1

abbrev pub decreases-product_anew : goal.decreases-product_anew
decreases-product_anew l = 3 * (4294967296 - min (least_number (family_of l.store.now l.a)) (least_number (family_of l.store.now l.b)))

abbrev pub decreases-product_with : goal.decreases-product_with
decreases-product_with l = 3 * (4294967296 - l.var) - 1
