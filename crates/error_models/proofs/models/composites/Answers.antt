use Rattle.std.proofs.Common.{Contains, Err, IfErr, None, Some, ap, subst, sym, ◌∙◌}
use Rattle.std.proofs.lemmas.Result.{err_from_is_err_and}
use Rattle.plain_values.specs.inner.Stops.{StopsAt}
use Rattle.plain_values.specs.Order.{least}
use Rattle.noted_refusals.specs.inner.Noted.{Tells, noting}
use Rattle.noted_refusals.proofs.Laws.{noted-lists, settled}
use Rattle.composite_states.specs.Composites.{composite_clause_refusals}
use Rattle.error_models.specs.Below.{states_below}
use Rattle.error_models.proofs.models.composites.Goals as goal

pub returns-in_err-settle-clause-refused : goal.returns-in_err-settle-clause-refused
returns-in_err-settle-clause-refused c =
    let group = composite_clause_refusals (states_below c.args.below.now.tree.profile c.args.below.now.tree.packages c.args.below.now.tree.kinds (Some c.args.below.now.classifier)) c.args.reading.now.types c.args.points.now c.args.states.now c.args.effective.now in
    let p = err_from_is_err_and c.from_residual-in_err-settle.result c.from_residual-in_err-settle.ensures.1 in
    subst (λ r. IfErr r (StopsAt (least group))) (sym (p.1 ∙ ap Err p.2))
    (settled c.args.reading.now.refusals.room c.clauses_of.new.reading.refusals group _ (c.in_ok-clauses.ensures.noted ∙ ap (λ noted. noting noted group) c.clear.ensures) c.in_err-settle.ensures)

pub returns-in_err-settle-clause-told : goal.returns-in_err-settle-clause-told
returns-in_err-settle-clause-told c =
    let group = composite_clause_refusals (states_below c.args.below.now.tree.profile c.args.below.now.tree.packages c.args.below.now.tree.kinds (Some c.args.below.now.classifier)) c.args.reading.now.types c.args.points.now c.args.states.now c.args.effective.now in
    let p = err_from_is_err_and c.from_residual-in_err-settle.result c.from_residual-in_err-settle.ensures.1 in
    subst (λ r. IfErr r (Tells group c.clauses_of.new.reading.refusals)) (sym (p.1 ∙ ap Err p.2))
    (noted-lists c.args.reading.now.refusals.room c.clauses_of.new.reading.refusals group (c.in_ok-clauses.ensures.noted ∙ ap (λ noted. noting noted group) c.clear.ensures))

pub returns-clause-accepted : goal.returns-clause-accepted
returns-clause-accepted c =
    let group = composite_clause_refusals (states_below c.args.below.now.tree.profile c.args.below.now.tree.packages c.args.below.now.tree.kinds (Some c.args.below.now.classifier)) c.args.reading.now.types c.args.points.now c.args.states.now c.args.effective.now in
    settled c.args.reading.now.refusals.room c.clauses_of.new.reading.refusals group None (c.in_ok-clauses.ensures.noted ∙ ap (λ noted. noting noted group) c.clear.ensures) c.in_ok-settle.ensures
