use Rattle.std.proofs.Common.{◌⊎◌, List, subst}
use Rattle.phases.specs.Phases.{Passes, Stops}
use Rattle.phases.specs.inner.Meets.{IsMemory}
use Rattle.phases.proofs.Steps.{◌beyond◌, ◌passes◌, ends, exits}
use Rattle.property_reader.specs.declared.rate.Rate.{Rate}
use Rattle.system_answers.specs.Texts.{probability_text}
use Rattle.fta_run.proofs.answering.probability.Goals as goal

pub returns-in_err-model : goal.returns-in_err-model
returns-in_err-model c = exits _ _ _ _ _ c.from_residual.ensures.1 (ends c.in_err-model.ensures.meets)

pub returns-in_err-text : goal.returns-in_err-text
returns-in_err-text c =
    let model = c.in_ok-model.model in
    let status = c.in_err-text.field-0.0 in
    let its = subst (λ (rates : List Rate). Stops (probability_text c.args.target.now c.args.form.hours.now c.args.form.events c.args.form.max_order model.system rates) status ⊎ IsMemory status) c.items-rates.ensures.items c.in_err-text.ensures in
    exits _ _ _ _ _ c.from_residual-in_err-text.ensures.1 (c.in_ok-model.ensures.meets beyond its)

pub returns : goal.returns
returns c =
    let model = c.in_ok-model.model in
    let its = subst (λ (rates : List Rate). Passes (probability_text c.args.target.now c.args.form.hours.now c.args.form.events c.args.form.max_order model.system rates) c.in_ok-text.text.items) c.items-rates.ensures.items c.in_ok-text.ensures in
    c.in_ok-model.ensures.meets passes its
