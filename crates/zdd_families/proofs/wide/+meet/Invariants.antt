use Rattle.std.proofs.Common.{◌-◌, ◌+◌, ◌*◌, min}
use Rattle.zdd_store.specs.inner.Family.{least_number}
use Rattle.zdd_store.specs.inner.Store.{family_of}
use Rattle.zdd_families.proofs.wide.+meet.Given as goal

abbrev pub decreases-meet_wide_anew : goal.decreases-meet_wide_anew
decreases-meet_wide_anew l = 2 * (4294967296 - min (least_number (family_of l.store.now l.a)) (least_number (family_of l.store.now l.b)))

abbrev pub decreases-meet_wide : goal.decreases-meet_wide
decreases-meet_wide l = 2 * (4294967296 - min (least_number (family_of l.store.now l.a)) (least_number (family_of l.store.now l.b))) + 1
