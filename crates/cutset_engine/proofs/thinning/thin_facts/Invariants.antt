use Rattle.std.proofs.Common.{◌≡◌, map, take}
use Rattle.cutset_engine.specs.inner.ThinSystems.{thin_fact}
use Rattle.cutset_engine.proofs.thinning.thin_facts.Given as goal

abbrev pub invariant-loop-fact : goal.invariant-loop-fact
invariant-loop-fact l = l.made ≡ map (thin_fact l.dropped l.but) (take l.fact-index l.facts)
