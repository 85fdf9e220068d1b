use Rattle.std.proofs.Common.{◌≡◌, ◌≤◌, ◌-◌}
use Rattle.decimals.specs.DecimalTexts.{trimmed}
use Rattle.decimals.proofs.decimal_text.trimmed.Given as goal

abbrev pub invariant-loop-step : goal.invariant-loop-step
invariant-loop-step l = (l.trim.zeros ≤ l._step) × (trimmed (18 - l._step) l.trim.zeros l.trim.digits ≡ trimmed 18 0 l.fn.mantissa)
