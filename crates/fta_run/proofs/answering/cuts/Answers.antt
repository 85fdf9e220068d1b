use Rattle.std.proofs.Common.{◌∙◌, ◌⊎◌, ap, subst}
use Rattle.phases.specs.Phases.{Passes, Stops}
use Rattle.phases.specs.inner.Meets.{IsMemory}
use Rattle.phases.proofs.Steps.{◌beyond◌, ◌passes◌, ends, exits}
use Rattle.page_tokens.specs.Keys.{asked_digits}
use Rattle.system_answers.specs.Texts.{cuts_text}
use Rattle.fta_run.proofs.Names.{model_token_names}
use Rattle.fta_run.proofs.answering.cuts.Goals as goal

pub returns-in_err-model : goal.returns-in_err-model
returns-in_err-model c = exits _ _ _ _ _ c.from_residual.ensures.1 (ends c.in_err-model.ensures.meets)

pub cuts-requires : goal.cuts-requires
cuts-requires c = model_token_names c.in_ok-model.model c.in_ok-model.ensures.plain

pub returns-in_err-page : goal.returns-in_err-page
returns-in_err-page c =
    let paging = c.args.paging.now in
    let asked = asked_digits c.args.tokens paging.after c.args.profile c.args.root.now c.args.target.now paging.max_order in
    let key = c.asked_digest-key.ensures ∙ ap asked c.items.ensures.items in
    let status = c.in_err-page.field-0.0 in
    let its = subst (λ digits. Stops (cuts_text c.args.target.now paging c.args.tokens digits c.in_ok-model.model.system) status ⊎ IsMemory status) key c.in_err-page.ensures in
    exits _ _ _ _ _ c.from_residual-in_err-page.ensures.1 (c.in_ok-model.ensures.meets beyond its)

pub returns : goal.returns
returns c =
    let paging = c.args.paging.now in
    let asked = asked_digits c.args.tokens paging.after c.args.profile c.args.root.now c.args.target.now paging.max_order in
    let key = c.asked_digest-key.ensures ∙ ap asked c.items.ensures.items in
    c.in_ok-model.ensures.meets passes subst (λ digits. Passes (cuts_text c.args.target.now paging c.args.tokens digits c.in_ok-model.model.system) c.in_ok-page.page) key c.in_ok-page.ensures
