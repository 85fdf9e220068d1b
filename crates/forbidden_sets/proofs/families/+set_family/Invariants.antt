use Rattle.std.proofs.Common.{length}
use Rattle.forbidden_sets.proofs.families.+set_family.Given as goal

abbrev pub decreases-set_family : goal.decreases-set_family
decreases-set_family l = length l.set.now
