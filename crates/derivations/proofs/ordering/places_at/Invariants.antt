use Rattle.std.proofs.Common.{◌≡◌, map, take}
use Rattle.derivations.specs.inner.Ordered.{place_at}
use Rattle.derivations.proofs.ordering.places_at.Given as goal

abbrev pub invariant-loop-fact : goal.invariant-loop-fact
invariant-loop-fact l = l.found.items ≡ map (place_at l.places) (take l.fact-index l.facts)
