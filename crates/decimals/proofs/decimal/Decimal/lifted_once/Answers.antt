use Rattle.decimals.proofs.EqualParts.{lift_once}
use Rattle.decimals.proofs.decimal.Decimal.lifted_once.Goals as goal

pub returns-then-self-gt0-clause-same : goal.returns-then-self-gt0-clause-same
returns-then-self-gt0-clause-same c = lift_once c.args.self.mantissa c.args.self.exponent c.if-self-gt0.true
