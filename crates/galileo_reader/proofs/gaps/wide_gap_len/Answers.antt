use Rattle.std.proofs.Common.{◌∙◌, ap, length, arith}
use Rattle.std.proofs.lemmas.List.{length-drop}
use Rattle.galileo_reader.specs.WideTokens.{piece_len}
use Rattle.galileo_reader.proofs.Pieces.{piece-last, piece-more, pieces-end, pieces-start}
use Rattle.galileo_reader.proofs.gaps.wide_gap_len.Goals as goal

pub loop-init : goal.loop-init
loop-init c = record { within = omega arith; so = pieces-start c.args.text.now }

pub loop-preserved : goal.loop-preserved
loop-preserved c = record {
  within = omega (arith, c.loop.invariant.within, c.piece_len-len.ensures.within, ap length c.behind.ensures, length-drop c.loop.at c.args.text.now);
  so = piece-more c.args.text.now c.loop.counter c.loop.at c.loop.invariant.so (omega (arith, c.loop-test.true)) c.piece_len-len.result (c.piece_len-len.ensures.value ∙ ap piece_len c.behind.ensures) (omega (arith, c.if-len-eq0.false));
}

pub returns-then-len-eq0-clause-value : goal.returns-then-len-eq0-clause-value
returns-then-len-eq0-clause-value c =
    piece-last c.args.text.now c.loop.counter c.loop.at c.loop.invariant.so (omega (arith, c.loop-test.true)) c.piece_len-len.result (c.piece_len-len.ensures.value ∙ ap piece_len c.behind.ensures) (omega (arith, c.if-len-eq0.true))

pub returns-clause-value : goal.returns-clause-value
returns-clause-value c = pieces-end c.args.text.now c.loop.counter c.loop.at c.loop.invariant.so (omega (arith, c.loop-test.false))
