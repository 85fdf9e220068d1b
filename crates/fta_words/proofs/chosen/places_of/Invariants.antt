use Rattle.std.proofs.Common.{length}
use Rattle.fta_words.proofs.Places.{AreNamed}
use Rattle.fta_words.proofs.chosen.places_of.Given as goal

abbrev pub invariant-loop-places : goal.invariant-loop-places
invariant-loop-places l = AreNamed l.reports l.text l.rest l.places

abbrev pub decreases-loop-places : goal.decreases-loop-places
decreases-loop-places l = length l.rest
