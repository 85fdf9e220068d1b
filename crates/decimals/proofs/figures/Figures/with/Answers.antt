use Rattle.std.proofs.Common.{arith}
use Rattle.decimals.proofs.FirstDigits.{short_with, zero_with, more_with}
use Rattle.decimals.proofs.figures.Figures.with.Goals as goal

pub returns-then-self-lt100000000000000000-clause-figures : goal.returns-then-self-lt100000000000000000-clause-figures
returns-then-self-lt100000000000000000-clause-figures c n are = short_with n c.args.digit c.args.self are c.requires.digit c.if-self-lt100000000000000000.true

pub returns-then-digit-eq0-clause-figures : goal.returns-then-digit-eq0-clause-figures
returns-then-digit-eq0-clause-figures c n are = zero_with n c.args.digit c.args.self are c.if-digit-eq0.true (omega (arith, c.if-self-lt100000000000000000.false))

pub returns-clause-figures : goal.returns-clause-figures
returns-clause-figures c n are = more_with n c.args.digit c.args.self are c.requires.digit (omega (arith, c.if-self-lt100000000000000000.false))
