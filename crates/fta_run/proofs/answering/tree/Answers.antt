use Rattle.std.proofs.Common.{◌⊎◌, subst}
use Rattle.phases.specs.Phases.{Passes, Stops}
use Rattle.phases.specs.inner.Meets.{IsMemory}
use Rattle.phases.proofs.Steps.{◌beyond◌, ◌passes◌, ends, exits}
use Rattle.system_answers.specs.Texts.{tree_text}
use Rattle.system_answers.specs.inner.Forms.{tree_bytes}
use Rattle.fta_run.proofs.Names.{model_rates, model_text_names}
use Rattle.fta_run.proofs.answering.tree.Goals as goal

pub returns-in_err-model : goal.returns-in_err-model
returns-in_err-model c = exits _ _ _ _ _ c.from_residual-in_err-model.ensures.1 (ends c.in_err-model.ensures.meets)

pub tree-requires-clause-names : goal.tree-requires-clause-names
tree-requires-clause-names c = model_text_names c.in_ok-model.model c.in_ok-model.ensures.plain

pub tree-requires-clause-rates : goal.tree-requires-clause-rates
tree-requires-clause-rates c = model_rates c.in_ok-model.model c.in_ok-model.ensures.plain

pub returns-in_err-text : goal.returns-in_err-text
returns-in_err-text c =
    let model = c.in_ok-model.model in
    let status = c.in_err-text.field-0.0 in
    let its = subst (λ form. Stops (tree_text c.args.target.now form model.system model.rates) status ⊎ IsMemory status) c.in_ok-form.ensures c.in_err-text.ensures in
    exits _ _ _ _ _ c.from_residual-in_err-text.ensures.1 (c.in_ok-model.ensures.meets beyond its)

pub returns : goal.returns
returns c =
    let model = c.in_ok-model.model in
    c.in_ok-model.ensures.meets passes subst (λ form. Passes (tree_text c.args.target.now form model.system model.rates) (tree_bytes c.in_ok-text.text)) c.in_ok-form.ensures c.in_ok-text.ensures
