use Rattle.std.proofs.Common.{◌≡◌, map, take}
use Rattle.fact_formulas.specs.Formulas.{cause_formula}
use Rattle.flattener.specs.inner.Tables.{capped, places_of}
use Rattle.flattener.proofs.counts.+places.Given as goal

abbrev pub invariant-causes_places-loop-cause : goal.invariant-causes_places-loop-cause
invariant-causes_places-loop-cause l = l.count ≡ capped (places_of (map (cause_formula l.site) (take l.cause-index l.causes)))
