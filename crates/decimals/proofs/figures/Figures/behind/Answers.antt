use Rattle.std.proofs.Common.{◌∙◌, sym}
use Rattle.decimals.proofs.FirstDigits.{behind_digit}
use Rattle.decimals.proofs.figures.Figures.behind.Goals as goal

pub returns-then-is_digit-clause-figures : goal.returns-then-is_digit-clause-figures
returns-then-is_digit-clause-figures c n are =
    behind_digit n c.args.byte c.digit_of.result c.with.result (sym c.is_digit.ensures ∙ c.if-is_digit.true) c.digit_of.ensures.value (c.with.ensures.figures n are)
