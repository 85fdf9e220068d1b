use Rattle.std.proofs.Common.{◌∙◌, ◌+◌, refl, sym}
use Rattle.listing_changes.proofs.Counting.{tells-one, tells-same}
use Rattle.listing_changes.proofs.telling.tell_set.Goals as goal

pub returns-then-branch : goal.returns-then-branch
returns-then-branch c = λ left.
    tells-same c.args.comparison.now c.args.set.now left c.args.told.now (record { text = c.args.told.now.text; count = c.args.told.now.count; numbers = c.is_matched.new.numbers }) (sym c.in_ok-is_matched.ensures ∙ c.if-branch.true) c.requires.few refl refl

pub returns : goal.returns
returns c = λ left.
    tells-one c.args.comparison.now c.args.set.now left c.args.told.now (record { text = c.push_line.new.text; count = c.args.told.now.count + 1; numbers = c.is_matched.new.numbers }) (sym c.in_ok-is_matched.ensures ∙ c.if-branch.false) c.requires.few
    c.in_ok-push_line.ensures refl
