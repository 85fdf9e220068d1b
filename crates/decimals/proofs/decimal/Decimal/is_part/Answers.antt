use Rattle.std.proofs.Common.{arith}
use Rattle.std.proofs.lemmas.Bool.{leb-true, leb-false}
use Rattle.decimals.proofs.EqualParts.{part_far, part_within, part_above, part_over}
use Rattle.decimals.proofs.decimal.Decimal.is_part.Goals as goal

pub returns-then-self-whole-clause-above : goal.returns-then-self-whole-clause-above
returns-then-self-whole-clause-above c none = part_over c.args.self.mantissa c.args.self.exponent c.args.whole (omega (arith, c.if-self-eq0.false)) c.if-self-whole.true

pub returns-then-gap-gt18-clause-within : goal.returns-then-gap-gt18-clause-within
returns-then-gap-gt18-clause-within c all =
    part_far c.args.self.mantissa c.args.self.exponent c.args.whole c.args.self.short (omega (arith, c.if-self-whole.false)) c.if-gap-gt18.true

pub returns-clause-within : goal.returns-clause-within
returns-clause-within c holds =
    let h = leb-true c.args.self.mantissa c.power.result holds in
    part_within c.args.self.mantissa c.args.self.exponent c.args.whole (omega (arith, c.if-self-whole.false)) (rw c.power.ensures at h)

pub returns-clause-above : goal.returns-clause-above
returns-clause-above c fails =
    let h = leb-false c.args.self.mantissa c.power.result fails in
    part_above c.args.self.mantissa c.args.self.exponent c.args.whole (omega (arith, c.if-self-whole.false)) (rw c.power.ensures at h)
