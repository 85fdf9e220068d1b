use Rattle.std.proofs.Common.{Contains, Err, IfErr, ap, subst, sym, ◌∙◌}
use Rattle.std.proofs.lemmas.Result.{err_from_is_err_and}
use Rattle.plain_values.specs.inner.Stops.{StopsAtFirst}
use Rattle.noted_refusals.specs.inner.Noted.{Tells}
use Rattle.component_extension.specs.Items.{classifier_refusals}
use Rattle.component_extension.proofs.EffectiveLaws.{chain-refused}
use Rattle.component_extension.proofs.effective.Effective.of.Goals as goal

pub returns-in_err-chain-clause-refused : goal.returns-in_err-chain-clause-refused
returns-in_err-chain-clause-refused c =
    let p = err_from_is_err_and c.from_residual.result c.from_residual.ensures.1 in
    subst (λ r. IfErr r (StopsAtFirst (Contains (classifier_refusals c.args.index.now c.args.id)))) (sym (p.1 ∙ ap Err p.2)) (chain-refused c.args.index.now c.args.id c.in_err-chain.field-0.0 c.in_err-chain.ensures.chain)
