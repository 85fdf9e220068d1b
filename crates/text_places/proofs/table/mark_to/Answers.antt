use Rattle.std.proofs.Common.{◌≡◌, ap, ◌∙◌, arith}
use Rattle.text_places.specs.inner.Marks.{mark_at}
use Rattle.text_places.proofs.Marked.{few}
use Rattle.text_places.proofs.table.mark_to.Goals as goal

pub returns-clause-mark : goal.returns-clause-mark
returns-clause-mark c =
    let there : c.loop-number.number ≡ c.args.end = omega (arith, c.loop-number-test.false, c.requires.before) in
    c.loop-number.invariant ∙ ap (mark_at c.args.text.now) there

pub returns-clause-few_feeds : goal.returns-clause-few_feeds
returns-clause-few_feeds c = (few c.args.text.now c.args.end c.loop-number.reached c.requires.within (returns-clause-mark c)).0

pub returns-clause-few_characters : goal.returns-clause-few_characters
returns-clause-few_characters c = (few c.args.text.now c.args.end c.loop-number.reached c.requires.within (returns-clause-mark c)).1
