use Rattle.std.proofs.Common.{ℕ, ◌≡◌, ◌∷◌, [], ◌++◌, ◌∙◌, ap, get_or, sym, take}
use Rattle.std.proofs.lemmas.List.{take_more}
use Rattle.forbidden_sets.proofs.Singles.{singles-more, singles-of}
use Rattle.forbidden_sets.proofs.forbidden.single_sets.Goals as goal

pub loop-number-preserved : goal.loop-number-preserved
loop-number-preserved c =
    let numbers = c.args.numbers.now in
    let i = c.loop-number.number-index in
    let number : ℕ = get_or numbers i 0 in
    let marks = c.args.marks.now in
    singles-more marks (take i numbers) number c.loop-number.sets c.in_ok-set.set _ c.in_ok-set.ensures c.has.result c.has.ensures c.in_ok-push_if.ensures c.loop-number.invariant
    ∙ ap (singles-of marks) (sym (take_more numbers i 0 c.loop-number-test.true))
