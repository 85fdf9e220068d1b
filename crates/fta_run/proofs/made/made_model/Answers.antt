use Rattle.std.proofs.Common.{[], ◌∷◌, ◌⊎◌, subst}
use Rattle.phases.specs.inner.Meets.{IsMemory}
use Rattle.phases.specs.Phases.{Passes, Stops, chains}
use Rattle.phases.proofs.Steps.{◌beyond◌, ends, exits, meets_later}
use Rattle.profiles.specs.declared.profile.Profile.TheVariants.{First}
use Rattle.fta_run.specs.Due.{made_root, model_of_texts, sized_text, within_limits}
use Rattle.fta_run.specs.inner.Ready.{held_text}
use Rattle.fta_run.proofs.made.made_model.Goals as goal

pub returns-in_err-model : goal.returns-in_err-model
returns-in_err-model c =
    let status = c.in_err-model.field-0.0 in
    let at = subst (λ texts. Stops (model_of_texts First c.in_ok-root.root texts) status ⊎ IsMemory status) c.items.ensures.items c.in_err-model.ensures in
    let its = subst (λ root. Stops (model_of_texts First root c.in_ok-texts.texts) status ⊎ IsMemory status) c.in_ok-root.ensures at in
    exits _ _ _ _ _ c.from_residual-in_err-model.ensures.1 (c.in_ok-texts.ensures beyond ends its)

pub returns : goal.returns
returns c =
    let texts = c.in_ok-texts.texts in
    let at = subst (λ texts. Passes (model_of_texts First c.in_ok-root.root texts) c.in_ok-model.model) c.items.ensures.items c.in_ok-model.ensures in
    let model = subst (λ root. Passes (model_of_texts First root texts) c.in_ok-model.model) c.in_ok-root.ensures at in
    meets_later IsMemory held_text (within_limits (c.args.text ∷ [])) (λ its. chains (model_of_texts First made_root its) sized_text) texts c.sized.result (λ s memory. memory) c.in_ok-texts.ensures
    (meets_later IsMemory held_text (model_of_texts First made_root texts) sized_text c.in_ok-model.model c.sized.result (λ s memory. memory) model c.sized.ensures)
