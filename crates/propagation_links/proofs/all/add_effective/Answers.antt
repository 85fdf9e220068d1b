use Rattle.std.proofs.Common.{None, Err, IfErr, ap, subst, sym, ◌∙◌}
use Rattle.std.specs.Prelude.{MatchResult}
use Rattle.std.proofs.lemmas.Result.{err_from_is_err_and}
use Rattle.plain_values.specs.Order.{least}
use Rattle.plain_values.specs.inner.Stops.{StopsAt}
use Rattle.noted_refusals.specs.inner.Noted.{TellsFirst, noting}
use Rattle.noted_refusals.proofs.Laws.{noted-lists, settled}
use Rattle.propagation_links.specs.Refused.{refusals_in}
use Rattle.propagation_links.specs.inner.Steps.{Linked}
use Rattle.propagation_links.proofs.all.add_effective.Goals as goal

pub returns-in_err-settle-clause-linked : goal.returns-in_err-settle-clause-linked
returns-in_err-settle-clause-linked c =
    let group = refusals_in c.args.pointed.now c.args.number c.args.effective.now in
    let p = err_from_is_err_and c.from_residual.result c.from_residual.ensures.1 in
    subst (λ r. MatchResult r (λ _. Linked c.args.pointed.now c.args.number c.args.effective.now c.args.links.now c.args.links.now) (StopsAt (least group))) (sym (p.1 ∙ ap Err p.2))
    (settled c.args.refusals.now.room c.note_faults.new.refusals group _ (c.note_faults.ensures ∙ ap (λ noted. noting noted group) c.clear.ensures) c.in_err-settle.ensures)

pub returns-in_err-settle-clause-told : goal.returns-in_err-settle-clause-told
returns-in_err-settle-clause-told c =
    let group = refusals_in c.args.pointed.now c.args.number c.args.effective.now in
    let room = c.args.refusals.now.room in
    let noted = c.note_faults.new.refusals in
    let all = c.note_faults.ensures ∙ ap (λ noted. noting noted group) c.clear.ensures in
    let p = err_from_is_err_and c.from_residual.result c.from_residual.ensures.1 in
    subst (λ r. IfErr r (TellsFirst group noted)) (sym (p.1 ∙ ap Err p.2)) (settled room noted group _ all c.in_err-settle.ensures, noted-lists room noted group all)

pub returns-clause-linked : goal.returns-clause-linked
returns-clause-linked c =
    let group = refusals_in c.args.pointed.now c.args.number c.args.effective.now in
    record {
      links = c.in_ok-add_links.ensures;
      accepted = settled c.args.refusals.now.room c.note_faults.new.refusals group None (c.note_faults.ensures ∙ ap (λ noted. noting noted group) c.clear.ensures) c.in_ok-settle.ensures;
    }
