use Rattle.std.proofs.Common.{arith}
use Rattle.aadl_lexer.proofs.Words.{text_at_quote, text_at_plain, text_at_escape, text_at_end}
use Rattle.aadl_lexer.proofs.form.text_rest_len.Goals as goal

pub returns-in-34-clause-value : goal.returns-in-34-clause-value
returns-in-34-clause-value c = text_at_quote c.args.text.now c.loop-len.len _ c.loop-len-test.true c.in-34.is c.loop-len.invariant.counted

pub loop-len-preserved-in-92 : goal.loop-len-preserved-in-92
loop-len-preserved-in-92 c = record { within = omega arith; counted = text_at_escape c.args.text.now c.loop-len.len _ c.loop-len-test.true c.in-92.is c.loop-len.invariant.counted }

pub loop-len-preserved : goal.loop-len-preserved
loop-len-preserved c = record { within = omega arith; counted = text_at_plain c.args.text.now c.loop-len.len _ c.loop-len-test.true (λ q. omega (arith, q)) (λ q. omega (arith, q)) c.loop-len.invariant.counted }

pub returns-clause-value : goal.returns-clause-value
returns-clause-value c = text_at_end c.args.text.now c.loop-len.len _ c.loop-len-test.false c.loop-len.invariant.counted
