use Rattle.std.proofs.Common.{◌≡◌, map, take}
use Rattle.cutset_engine.specs.inner.ThinSystems.{thin_formula}
use Rattle.cutset_engine.proofs.thinning.+thin.Given as goal

abbrev pub invariant-thin_parts-loop-part : goal.invariant-thin_parts-loop-part
invariant-thin_parts-loop-part l = l.made ≡ map (thin_formula l.dropped l.but) (take l.part-index l.parts)
