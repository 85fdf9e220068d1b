use Rattle.std.proofs.Common.{sym, ◌∙◌, arith}
use Rattle.derivations.proofs.Places.{place-on, place-out}
use Rattle.derivations.proofs.text.line_place.Goals as goal

pub returns-then-end-bytes : goal.returns-then-end-bytes
returns-then-end-bytes c =
    let before = c.loop-more.invariant in
    sym (place-out c.args.bytes.now c.loop-more.at c.line_end-end.result c.loop-more.more before.within c.line_end-end.ensures.value c.if-end-bytes.true c.loop-more-test.true) ∙ before.place

pub loop-more-preserved : goal.loop-more-preserved
loop-more-preserved c =
    let before = c.loop-more.invariant in
    record {
      within = omega (arith, c.if-end-bytes.false);
      place = sym (place-on c.args.bytes.now c.loop-more.at c.line_end-end.result c.loop-more.more before.within c.line_end-end.ensures.value c.if-end-bytes.false c.loop-more-test.true) ∙ before.place;
    }
