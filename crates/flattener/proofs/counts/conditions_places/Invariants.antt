use Rattle.std.proofs.Common.{◌≡◌, map, take}
use Rattle.fact_formulas.specs.Formulas.{cause_formula}
use Rattle.flattener.specs.inner.Tables.{capped, places_of}
use Rattle.flattener.proofs.counts.conditions_places.Given as goal

abbrev pub invariant-loop-cause : goal.invariant-loop-cause
invariant-loop-cause l = l.count ≡ capped (places_of (map (cause_formula l.site) (map (λ cause. cause.now) (take l.cause-index l.causes))))
