use Rattle.std.proofs.Common.{[], Contains, Err, IfErr, MatchOption, ap, subst, sym, ◌≡◌, ◌∙◌}
use Rattle.std.proofs.lemmas.Result.{err_from_is_err_and}
use Rattle.plain_values.specs.Order.{IsFirst}
use Rattle.plain_values.specs.inner.Stops.{StopsAtFirst}
use Rattle.noted_refusals.specs.inner.Noted.{Tells}
use Rattle.component_extension.specs.Members.{member_refusals}
use Rattle.component_extension.proofs.MemberLaws.{all-listed, all-noted}
use Rattle.component_extension.proofs.effective.effective_members.Goals as goal

pub returns-in_err-settle-clause-refused : goal.returns-in_err-settle-clause-refused
returns-in_err-settle-clause-refused c =
    let group = member_refusals c.args.classifiers.now in
    let settled = all-noted c.args.classifiers.now _ _ _ _ _ _ _ _ _ _ c.clear.ensures c.in_ok-features.ensures.noted c.in_ok-subcomponents.ensures.noted c.in_ok-connections.ensures.noted c.note_duplicates.ensures
    c.new-marks.ensures.items c.in_ok-features.ensures.marks c.in_ok-subcomponents.ensures.marks (c.in_ok-names.ensures ∙ c.in_ok-connections.ensures.marks) in
    let first = subst (λ o. MatchOption o (group ≡ []) (IsFirst (Contains group))) c.in_err-settle.ensures settled in
    let p = err_from_is_err_and c.from_residual-in_err-settle.result c.from_residual-in_err-settle.ensures.1 in
    subst (λ r. IfErr r (StopsAtFirst (Contains group))) (sym (p.1 ∙ ap Err p.2)) first

pub returns-in_err-settle-clause-told : goal.returns-in_err-settle-clause-told
returns-in_err-settle-clause-told c =
    let group = member_refusals c.args.classifiers.now in
    let listed = all-listed c.args.classifiers.now _ _ _ _ _ _ _ _ _ _ c.clear.ensures c.in_ok-features.ensures.noted c.in_ok-subcomponents.ensures.noted c.in_ok-connections.ensures.noted c.note_duplicates.ensures
    c.new-marks.ensures.items c.in_ok-features.ensures.marks c.in_ok-subcomponents.ensures.marks (c.in_ok-names.ensures ∙ c.in_ok-connections.ensures.marks) in
    let p = err_from_is_err_and c.from_residual-in_err-settle.result c.from_residual-in_err-settle.ensures.1 in
    subst (λ r. IfErr r (Tells group c.note_duplicates.new.refusals)) (sym (p.1 ∙ ap Err p.2)) listed

pub returns-clause-accepted : goal.returns-clause-accepted
returns-clause-accepted c =
    let group = member_refusals c.args.classifiers.now in
    let settled = all-noted c.args.classifiers.now _ _ _ _ _ _ _ _ _ _ c.clear.ensures c.in_ok-features.ensures.noted c.in_ok-subcomponents.ensures.noted c.in_ok-connections.ensures.noted c.note_duplicates.ensures
    c.new-marks.ensures.items c.in_ok-features.ensures.marks c.in_ok-subcomponents.ensures.marks (c.in_ok-names.ensures ∙ c.in_ok-connections.ensures.marks) in
    subst (λ o. MatchOption o (group ≡ []) (IsFirst (Contains group))) c.in_ok-settle.ensures settled
