use Rattle.std.proofs.Common.{◌∙◌, ap, sym, arith}
use Rattle.galileo_reader.specs.WideTokens.{closes}
use Rattle.galileo_reader.proofs.Pieces.{closing-end, closing-found, closing-more}
use Rattle.galileo_reader.proofs.gaps.closing_len.Goals as goal

pub returns-then-closes-clause-value : goal.returns-then-closes-clause-value
returns-then-closes-clause-value c = closing-found c.args.text.now c.loop-at.at c.loop-at.invariant (omega (arith, c.loop-at-test.true)) (ap closes (sym c.behind.ensures) ∙ sym c.closes.ensures ∙ c.if-closes.true)

pub loop-at-preserved : goal.loop-at-preserved
loop-at-preserved c = closing-more c.args.text.now c.loop-at.at c.loop-at.invariant (omega (arith, c.loop-at-test.true)) (ap closes (sym c.behind.ensures) ∙ sym c.closes.ensures ∙ c.if-closes.false)

pub returns-clause-value : goal.returns-clause-value
returns-clause-value c = closing-end c.args.text.now c.loop-at.at c.loop-at.invariant (omega (arith, c.loop-at-test.false))
