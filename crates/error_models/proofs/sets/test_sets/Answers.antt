use Rattle.std.proofs.Common.{[], Contains, Err, IfErr, MatchOption, ap, subst, sym, ◌≡◌, ◌∙◌}
use Rattle.std.proofs.lemmas.Result.{err_from_is_err_and}
use Rattle.plain_values.specs.Order.{IsFirst}
use Rattle.noted_refusals.specs.inner.Noted.{Tells, noting}
use Rattle.noted_refusals.proofs.Laws.{noted-all, noted-lists}
use Rattle.plain_values.specs.inner.Stops.{StopsAtFirst}
use Rattle.error_models.specs.Refused.{all_set_refusals}
use Rattle.error_models.proofs.sets.test_sets.Goals as goal

pub returns-in_err-settle-clause-refused : goal.returns-in_err-settle-clause-refused
returns-in_err-settle-clause-refused c =
    let group = all_set_refusals c.args.reading.now.types c.args.instance.now.kinds in
    let settled = noted-all c.args.reading.now.refusals.room c.note_sets.new.reading.refusals group (c.in_ok-note_sets.ensures.noted ∙ ap (λ noted. noting noted group) c.clear.ensures) in
    let first = subst (λ o. MatchOption o (group ≡ []) (IsFirst (Contains group))) c.in_err-settle.ensures settled in
    let p = err_from_is_err_and c.from_residual-in_err-settle.result c.from_residual-in_err-settle.ensures.1 in
    subst (λ r. IfErr r (StopsAtFirst (Contains group))) (sym (p.1 ∙ ap Err p.2)) first

pub returns-in_err-settle-clause-told : goal.returns-in_err-settle-clause-told
returns-in_err-settle-clause-told c =
    let group = all_set_refusals c.args.reading.now.types c.args.instance.now.kinds in
    let listed = noted-lists c.args.reading.now.refusals.room c.note_sets.new.reading.refusals group (c.in_ok-note_sets.ensures.noted ∙ ap (λ noted. noting noted group) c.clear.ensures) in
    let p = err_from_is_err_and c.from_residual-in_err-settle.result c.from_residual-in_err-settle.ensures.1 in
    subst (λ r. IfErr r (Tells group c.note_sets.new.reading.refusals)) (sym (p.1 ∙ ap Err p.2)) listed

pub returns-clause-accepted : goal.returns-clause-accepted
returns-clause-accepted c =
    let group = all_set_refusals c.args.reading.now.types c.args.instance.now.kinds in
    let settled = noted-all c.args.reading.now.refusals.room c.note_sets.new.reading.refusals group (c.in_ok-note_sets.ensures.noted ∙ ap (λ noted. noting noted group) c.clear.ensures) in
    subst (λ o. MatchOption o (group ≡ []) (IsFirst (Contains group))) c.in_ok-settle.ensures settled
