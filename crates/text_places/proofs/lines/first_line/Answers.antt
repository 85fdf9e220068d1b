use Rattle.std.proofs.Common.{◌∙◌, sym, eq-eqb, arith}
use Rattle.text_places.proofs.Feeds.{ends_nowhere, ends_there}
use Rattle.text_places.proofs.lines.first_line.Goals as goal

pub returns-then-byte-eq10 : goal.returns-then-byte-eq10
returns-then-byte-eq10 c = c.without_return.ensures ∙ sym (ends_there c.args.text.now c.loop-number.number c.loop-number-test.true c.loop-number.invariant (eq-eqb _ 10 c.if-byte-eq10.true))

pub returns : goal.returns
returns c = sym (ends_nowhere c.args.text.now (λ k less. c.loop-number.invariant k (omega (arith, less, c.loop-number-test.false))))
