use Rattle.std.proofs.Common.{◌≡◌, map, take}
use Rattle.fact_formulas.specs.Formulas.{step_formula}
use Rattle.flattener.specs.inner.Tables.{capped, places_of}
use Rattle.flattener.proofs.counts.steps_places.Given as goal

abbrev pub invariant-loop-step : goal.invariant-loop-step
invariant-loop-step l = l.count ≡ capped (places_of (map (step_formula l.site) (map (λ step. step.now) (take l.step-index l.steps))))
