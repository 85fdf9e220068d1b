use Rattle.std.proofs.Common.{◌⊎◌, List, ℕ, inl, inr, subst}
use Rattle.phases.specs.inner.Meets.{IsMemory}
use Rattle.phases.specs.Phases.{Passes, Stops}
use Rattle.phases.proofs.Steps.{◌beyond◌, ◌passes◌, exits}
use Rattle.fta_run.specs.Due.{first_text, model_of_texts}
use Rattle.fta_run.specs.Later.{in_later_files}
use Rattle.system_answers.specs.Derivations.{confirm_text}
use Rattle.fta_run.proofs.Names.{event_line_names, fact_line_names, model_token_names}
use Rattle.fta_run.proofs.confirmed.confirmation.Goals as goal

pub confirmed-requires-clause-tokens : goal.confirmed-requires-clause-tokens
confirmed-requires-clause-tokens c = model_token_names c.in_ok-model.model c.in_ok-model.ensures.plain

pub confirmed-requires-clause-facts : goal.confirmed-requires-clause-facts
confirmed-requires-clause-facts c = fact_line_names c.in_ok-model.model.system c.in_ok-model.ensures.plain.system

pub confirmed-requires-clause-events : goal.confirmed-requires-clause-events
confirmed-requires-clause-events c = event_line_names c.in_ok-model.model.system c.in_ok-model.ensures.plain.system

pub returns-in_err-model : goal.returns-in_err-model
returns-in_err-model c =
    let status = c.in_err-model.field-0.0 in
    let its = subst (λ texts. Stops (in_later_files 1 (model_of_texts c.args.profile c.args.root.now texts)) status ⊎ IsMemory status) c.others.ensures.texts c.in_err-model.ensures.meets in
    exits _ _ _ _ _ c.from_residual.ensures.1 (elim its [ inl stops ↦ inl (record { stopped = inl stops.stopped }) | inr memory ↦ inr memory ])

pub returns-in_err-text : goal.returns-in_err-text
returns-in_err-text c =
    let model = subst (λ its. Passes (in_later_files 1 (model_of_texts c.args.profile c.args.root.now its)) c.in_ok-model.model) c.others.ensures.texts c.in_ok-model.ensures.meets in
    let status = c.in_err-text.field-0.0 in
    let its = subst (λ (set : List ℕ). Stops (confirm_text c.args.target.now set (first_text c.args.texts) c.in_ok-model.model.system) status ⊎ IsMemory status) c.in_ok-set.ensures
    (subst (λ bytes. Stops (confirm_text c.args.target.now c.in_ok-set.set bytes c.in_ok-model.model.system) status ⊎ IsMemory status) c.first.ensures.text c.in_err-text.ensures) in
    exits _ _ _ _ _ c.from_residual-in_err-text.ensures.1 (model beyond its)

pub returns : goal.returns
returns c =
    let model = subst (λ its. Passes (in_later_files 1 (model_of_texts c.args.profile c.args.root.now its)) c.in_ok-model.model) c.others.ensures.texts c.in_ok-model.ensures.meets in
    model passes subst (λ (set : List ℕ). Passes (confirm_text c.args.target.now set (first_text c.args.texts) c.in_ok-model.model.system) c.in_ok-text.text.items) c.in_ok-set.ensures
    (subst (λ bytes. Passes (confirm_text c.args.target.now c.in_ok-set.set bytes c.in_ok-model.model.system) c.in_ok-text.text.items) c.first.ensures.text c.in_ok-text.ensures)
