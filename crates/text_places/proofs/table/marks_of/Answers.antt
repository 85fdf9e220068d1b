use Rattle.std.proofs.Common.{arith}
use Rattle.text_places.proofs.Marked.{its-mark}
use Rattle.text_places.proofs.table.marks_of.Goals as goal

pub loop-number-preserved : goal.loop-number-preserved
loop-number-preserved c =
    let text = c.args.text.now in
    (c.next-mark.ensures, c.in_ok-keep.ensures text (its-mark text c.loop-number.number c.loop-number.mark (omega (arith, c.loop-number-test.true)) c.loop-number.invariant.0) c.loop-number.invariant.1)
