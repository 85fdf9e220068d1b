use Rattle.std.proofs.Common.{◌⊎◌, List, ℕ, subst}
use Rattle.phases.specs.Phases.{Passes, Stops}
use Rattle.phases.specs.inner.Meets.{IsMemory}
use Rattle.phases.proofs.Steps.{◌beyond◌, ◌passes◌, ends, exits}
use Rattle.system_answers.specs.Derivations.{why_text}
use Rattle.fta_run.proofs.Names.{model_token_names}
use Rattle.fta_run.proofs.answering.why.Goals as goal

pub returns-in_err-model : goal.returns-in_err-model
returns-in_err-model c = exits _ _ _ _ _ c.from_residual.ensures.1 (ends c.in_err-model.ensures.meets)

pub why-requires : goal.why-requires
why-requires c = model_token_names c.in_ok-model.model c.in_ok-model.ensures.plain

pub returns-in_err-text : goal.returns-in_err-text
returns-in_err-text c =
    let model = c.in_ok-model.model in
    let status = c.in_err-text.field-0.0 in
    let its = subst (λ (text : List ℕ). Stops (why_text c.args.target.now text model.system) status ⊎ IsMemory status) c.in_ok-set.ensures c.in_err-text.ensures in
    exits _ _ _ _ _ c.from_residual-in_err-text.ensures.1 (c.in_ok-model.ensures.meets beyond its)

pub returns : goal.returns
returns c =
    let model = c.in_ok-model.model in
    c.in_ok-model.ensures.meets passes subst (λ (text : List ℕ). Passes (why_text c.args.target.now text model.system) c.in_ok-text.text.items) c.in_ok-set.ensures c.in_ok-text.ensures
