use Rattle.std.proofs.Common.{◌⊎◌, ℕ, List, inl, inr, subst}
use Rattle.phases.specs.inner.Meets.{IsMemory}
use Rattle.phases.specs.Phases.{Passes, Stops}
use Rattle.phases.proofs.Steps.{◌beyond◌, ◌passes◌, exits}
use Rattle.fta_run.specs.Due.{model_of_texts}
use Rattle.fta_run.specs.Later.{in_later_files}
use Rattle.fta_run.specs.Required.{required_text}
use Rattle.fta_run.specs.inner.Required.{output_of}
use Rattle.fta_run.proofs.required.required.Goals as goal

pub returns-in_err-model : goal.returns-in_err-model
returns-in_err-model c =
    let status = c.in_err-model.field-0.0 in
    let its = subst (λ texts. Stops (in_later_files 1 (model_of_texts c.args.profile c.args.root.now texts)) status ⊎ IsMemory status) c.others.ensures.texts c.in_err-model.ensures.meets in
    exits _ _ _ _ _ c.from_residual.ensures.1 (elim its [ inl stops ↦ inl (record { stopped = inl stops.stopped }) | inr memory ↦ inr memory ])

pub returns-in_err-told : goal.returns-in_err-told
returns-in_err-told c =
    let model = subst (λ its. Passes (in_later_files 1 (model_of_texts c.args.profile c.args.root.now its)) c.in_ok-model.model) c.others.ensures.texts c.in_ok-model.ensures.meets in
    let status = c.in_err-told.field-0.0 in
    let its = subst (λ (bytes : List ℕ). Stops (required_text c.args.tap bytes c.in_ok-model.model.system c.in_ok-model.model.rates) status ⊎ IsMemory status) c.first.ensures.text c.in_err-told.ensures in
    exits _ _ _ _ _ c.from_residual-in_err-told.ensures.1 (model beyond its)

pub returns : goal.returns
returns c =
    let model = subst (λ its. Passes (in_later_files 1 (model_of_texts c.args.profile c.args.root.now its)) c.in_ok-model.model) c.others.ensures.texts c.in_ok-model.ensures.meets in
    model passes subst (λ (bytes : List ℕ). Passes (required_text c.args.tap bytes c.in_ok-model.model.system c.in_ok-model.model.rates) (output_of c.in_ok-told.told)) c.first.ensures.text c.in_ok-told.ensures
