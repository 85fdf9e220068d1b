use Rattle.std.proofs.Common.{◌⊎◌, List, ℕ, subst}
use Rattle.phases.specs.Phases.{Passes, Stops}
use Rattle.phases.specs.inner.Meets.{IsMemory}
use Rattle.phases.proofs.Steps.{exits}
use Rattle.system_answers.specs.Texts.{galileo_probability_text}
use Rattle.fta_run.proofs.answering.probability_of_tree.Goals as goal

pub returns-in_err-text : goal.returns-in_err-text
returns-in_err-text c =
    let status = c.in_err-text.field-0.0 in
    let form = c.args.form in
    exits _ _ _ _ _ c.from_residual.ensures.1 (subst (λ (text : List ℕ). Stops (galileo_probability_text c.args.wide form.hours.now form.events form.max_order text) status ⊎ IsMemory status) c.first.ensures.text c.in_err-text.ensures)

pub returns : goal.returns
returns c =
    let form = c.args.form in
    subst (λ (text : List ℕ). Passes (galileo_probability_text c.args.wide form.hours.now form.events form.max_order text) c.in_ok-text.text.items) c.first.ensures.text c.in_ok-text.ensures
