use Rattle.std.proofs.Common.{length}
use Rattle.family_renaming.proofs.by_listing.+set_alone.Given as goal

abbrev pub decreases-set_alone : goal.decreases-set_alone
decreases-set_alone l = length l.set.now
