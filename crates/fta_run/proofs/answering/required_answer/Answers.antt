use Rattle.std.proofs.Common.{◌⊎◌, Bool, subst}
use Rattle.phases.specs.Phases.{Passes, Stops}
use Rattle.phases.specs.inner.Meets.{IsMemory}
use Rattle.phases.proofs.Steps.{exits}
use Rattle.fta_run.specs.Due.{required_in}
use Rattle.fta_run.specs.inner.Required.{output_of}
use Rattle.fta_run.proofs.answering.required_answer.Goals as goal

pub returns-in_err-told-clause-text : goal.returns-in_err-told-clause-text
returns-in_err-told-clause-text c =
    let status = c.in_err-told.field-0.0 in
    exits _ _ _ _ _ c.from_residual.ensures.1
    (subst (λ (tap : Bool). Stops (required_in c.args.profile c.args.asked.now.root tap c.args.texts) status ⊎ IsMemory status) c.is_set-tap.ensures c.in_err-told.ensures)

pub returns-clause-text : goal.returns-clause-text
returns-clause-text c =
    subst (λ (tap : Bool). Passes (required_in c.args.profile c.args.asked.now.root tap c.args.texts) (output_of c.in_ok-told.told)) c.is_set-tap.ensures c.in_ok-told.ensures
