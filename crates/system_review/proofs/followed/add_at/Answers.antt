use Rattle.std.proofs.Common.{nat_eq, Some, ap, sym, ◌∙◌}
use Rattle.std.specs.HashSet.{contains}
use Rattle.std.proofs.lemmas.Option.{slice_get-get_or}
use Rattle.system_review.proofs.InOrder.{at-in, within-next}
use Rattle.system_review.proofs.followed.add_at.Goals as goal

pub returns-in_ok-add_true-in-Some : goal.returns-in_ok-add_true-in-Some
returns-in_ok-add_true-in-Some c cause rounds is =
    let place = c.args.place in
    let number = c.in-Some.number.now in
    within-next c.args.system.now c.args.among.now cause rounds number (contains nat_eq c.args.found.now.numbers) (contains nat_eq c.add_true.new.found.numbers)
    (at-in c.args.among.now place number (slice_get-get_or c.args.among.now place number c.in-Some.ensures.lookup.3.0 ∙ ap Some (sym (c.in-Some.ensures.lookup.3.1 number)))) c.in_ok-add_true-in-Some.ensures is
