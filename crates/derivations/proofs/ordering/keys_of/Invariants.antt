use Rattle.derivations.specs.inner.Ordered.{AreKeys}
use Rattle.derivations.proofs.ordering.keys_of.Given as goal

abbrev pub invariant-loop-fact : goal.invariant-loop-fact
invariant-loop-fact l = AreKeys l.rounds l.marks l.fact l.keys.items
