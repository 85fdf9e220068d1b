use Rattle.target_probabilities.specs.inner.Probable.{AreKnownSo}
use Rattle.target_probabilities.proofs.known.all_known.Given as goal

abbrev pub invariant-loop-event : goal.invariant-loop-event
invariant-loop-event l = AreKnownSo l.whole l.rates l.hours l.event l.known.items
