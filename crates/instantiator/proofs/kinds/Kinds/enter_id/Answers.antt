use Rattle.std.proofs.Common.{◌≡◌, sym, ap, ◌∙◌, subst}
use Rattle.std.proofs.lemmas.Result.{err_from_is_err_and}
use Rattle.plain_values.specs.Order.{least}
use Rattle.component_extension.specs.Items.{classifier_refusals}
use Rattle.component_extension.specs.inner.Effective.{IsEffective}
use Rattle.plain_values.specs.inner.Stops.{StopsAt}
use Rattle.noted_refusals.specs.inner.Noted.{TellsFirst}
use Rattle.noted_refusals.proofs.Laws.{told-least}
use Rattle.instantiator.specs.inner.Whole.{Kinds}
use Rattle.instantiator.proofs.EffectiveIs.{effective-is}
use Rattle.instantiator.proofs.KindLaws.{entered-again, entered-new, refused-stops}
use Rattle.instantiator.proofs.kinds.Kinds.enter_id.Goals as goal

pub returns-in-Some-clause-entered : goal.returns-in-Some-clause-entered
returns-in-Some-clause-entered c = entered-again _ _ _ c.self.invariant _ c.self.view_is c.args.id c.in-Some.number (sym c.number.ensures ∙ c.in-Some.is)

pub returns-in_err-effective-clause-entered : goal.returns-in_err-effective-clause-entered
returns-in_err-effective-clause-entered c =
    let view : c.self.inside.index.now ≡ c.args.self.now.packages = ap (λ (kinds : Kinds). kinds.packages) c.self.view_is in
    let p = err_from_is_err_and c.from_residual.result c.from_residual.ensures.1 in
    rw (p.1, p.2) (subst (λ packages. StopsAt (least (classifier_refusals packages c.args.id)) c.in_err-effective.field-0.0) view (refused-stops _ _ c.in_err-effective.ensures.refused))

pub returns-in_err-effective-clause-told : goal.returns-in_err-effective-clause-told
returns-in_err-effective-clause-told c =
    let view : c.self.inside.index.now ≡ c.args.self.now.packages = ap (λ (kinds : Kinds). kinds.packages) c.self.view_is in
    let group = classifier_refusals c.self.inside.index.now c.args.id in
    let stop = c.in_err-effective.field-0.0 in
    let noted = c.of.new.refusals in
    let p = err_from_is_err_and c.from_residual.result c.from_residual.ensures.1 in
    rw (p.1, p.2) (subst (λ packages. TellsFirst (classifier_refusals packages c.args.id) noted stop) view
    (told-least group noted stop (refused-stops group stop c.in_err-effective.ensures.refused) c.in_err-effective.ensures.told))

pub add-requires-clause-effective : goal.add-requires-clause-effective
add-requires-clause-effective c =
    let made = c.in_ok-effective.effective in
    let view : c.self.inside.index.now ≡ c.args.self.now.packages = ap (λ (kinds : Kinds). kinds.packages) c.self.view_is in
    let effective = effective-is c.args.self.now.packages c.args.id made (subst (λ packages. IsEffective packages c.args.id made) view c.in_ok-effective.ensures.effective) in
    λ i. record { classifier = c.args.id; effective = effective i }

pub returns-clause-entered : goal.returns-clause-entered
returns-clause-entered c =
    let view : c.self.inside.index.now ≡ c.args.self.now.packages = ap (λ (kinds : Kinds). kinds.packages) c.self.view_is in
    entered-new c.args.self.now c.add.new.self c.args.id _ (sym c.number.ensures ∙ c.in_default.is) (ap (λ packages. classifier_refusals packages c.args.id) (sym view) ∙ c.in_ok-effective.ensures.accepted) c.in_ok-add.ensures.kinds c.in_ok-add.ensures.number
