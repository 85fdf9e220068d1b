use Rattle.std.proofs.Common.{arith}
use Rattle.help_texts.proofs.Signs.{first_sign, no_sign, one_more}
use Rattle.help_texts.proofs.usage.before_sign.Goals as goal

pub returns-then-byte-sign : goal.returns-then-byte-sign
returns-then-byte-sign c = first_sign c.args.sign c.loop-number.number c.args.text.now c.loop-number-test.true c.if-byte-sign.true c.loop-number.invariant

pub loop-number-preserved : goal.loop-number-preserved
loop-number-preserved c = one_more c.args.sign c.loop-number.number c.args.text.now c.loop-number-test.true c.if-byte-sign.false c.loop-number.invariant

pub returns : goal.returns
returns c = no_sign c.args.sign c.loop-number.number c.args.text.now (omega (arith, c.loop-number-test.false, c.loop-number.auto.number-end)) c.loop-number.invariant
