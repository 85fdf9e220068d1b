use Rattle.std.proofs.Common.{◌≡◌, map, take}
use Rattle.fact_formulas.specs.Formulas.{step_formula}
use Rattle.flattener.proofs.causes.steps.Given as goal

abbrev pub invariant-loop-step : goal.invariant-loop-step
invariant-loop-step l = l.formulas ≡ map (step_formula l.site) (map (λ step. step.now) (take l.step-index l.steps))
