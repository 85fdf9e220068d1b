use Rattle.std.proofs.Common.{◌≡◌, map, take}
use Rattle.fact_formulas.specs.Formulas.{cause_formula}
use Rattle.flattener.proofs.causes.conditions.Given as goal

abbrev pub invariant-loop-cause : goal.invariant-loop-cause
invariant-loop-cause l = l.formulas ≡ map (cause_formula l.site) (map (λ cause. cause.now) (take l.cause-index l.causes))
