use Rattle.std.proofs.Common.{◌≡◌, map, take}
use Rattle.fact_formulas.specs.Formulas.{cause_formula}
use Rattle.flattener.proofs.causes.+cause.Given as goal

abbrev pub invariant-cause_formulas-loop-cause : goal.invariant-cause_formulas-loop-cause
invariant-cause_formulas-loop-cause l = l.formulas ≡ map (cause_formula l.site) (take l.cause-index l.causes)
