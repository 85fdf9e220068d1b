use Rattle.std.proofs.Common.{ℕ, ◌+◌, ◌-◌, ◌∙◌, ◌≡◌, sym, subst, arith}
use Rattle.decimals.specs.DecimalTexts.{trimmed}
use Rattle.decimals.proofs.decimal_text.trimmed.Goals as goal

pub loop-step-preserved : goal.loop-step-preserved
loop-step-preserved c =
    let i = c.loop-step.invariant in
    let k = c.loop-step._step in
    let less : 18 - k - 1 ≡ 18 - (k + 1) = omega arith in
    let step = c.once-trim.ensures.trimmed (18 - k) (omega arith) in
    (omega (arith, i.0, c.once-trim.ensures.few), subst (λ (n : ℕ). trimmed n c.once-trim.result.zeros c.once-trim.result.digits ≡ trimmed 18 0 c.args.mantissa) less (sym step ∙ i.1))
