use Rattle.std.proofs.Common.{◌∷◌, [], ◌++◌, ap, ◌∙◌}
use Rattle.std.proofs.lemmas.List.{append_assoc}
use Rattle.error_machines.proofs.StateLaws.{marks-more}
use Rattle.error_machines.proofs.states.add_each.Goals as goal

pub loop-number-preserved : goal.loop-number-preserved
loop-number-preserved c =
    let index = c.loop-number._number-index in
    let mark = c.args.mark in
    let within = c.loop-number-test.true in
    c.in_ok-push.ensures.ok ∙ ap (λ marks. marks ++ mark ∷ []) c.loop-number.invariant
    ∙ append_assoc c.args.marks.now _ (mark ∷ []) ∙ ap (λ more. c.args.marks.now ++ more) (marks-more c.args.types.now index mark within)
