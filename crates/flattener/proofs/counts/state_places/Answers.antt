use Rattle.std.proofs.Common.{ap, sym, ◌∙◌, List, slice_index_or, false, map}
use Rattle.error_models.specs.declared.model.ErrorModel.{ErrorModel}
use Rattle.error_conditions.specs.declared.cause.Cause.{Cause}
use Rattle.error_behavior.specs.declared.steps.Step.{Step}
use Rattle.fact_formulas.specs.Formulas.{cause_formula, conditions_to, step_formula, steps_to}
use Rattle.flattener.specs.inner.Tables.{capped, places_of}
use Rattle.flattener.proofs.Caps.{one-of}
use Rattle.flattener.proofs.Places.{state-composite, state-initial, state-stepped}
use Rattle.flattener.proofs.counts.state_places.Goals as goal

pub returns-then-is_initial : goal.returns-then-is_initial
returns-then-is_initial c =
    let initial = ap (λ (model : ErrorModel). slice_index_or model.states.always c.args.state false) (sym c.kind-kind.ensures) ∙ sym c.is_initial.ensures ∙ c.if-is_initial.true in
    one-of _ (state-initial c.args.site.now c.args.state initial)

pub returns-then-model : goal.returns-then-model
returns-then-model c =
    let site = c.args.site.now in
    let initial = ap (λ (model : ErrorModel). slice_index_or model.states.always c.args.state false) (sym c.kind-kind.ensures) ∙ sym c.is_initial.ensures ∙ c.if-is_initial.false in
    let composite = ap (λ (model : ErrorModel). model.is_composite) (sym c.kind-kind.ensures) ∙ ap (λ (model : ErrorModel). model.is_composite) (sym c.model.ensures) ∙ c.if-model.true in
    let at = c.conditions_to.ensures ∙ ap (λ (model : ErrorModel). conditions_to c.args.state model.composites) c.kind-kind.ensures in
    c.one_more.ensures _ (c.conditions_places.ensures ∙ ap (λ (them : List Cause). capped (places_of (map (cause_formula site) them))) at) ∙ ap capped (sym (state-composite site c.args.state initial composite))

pub returns-else-model : goal.returns-else-model
returns-else-model c =
    let site = c.args.site.now in
    let initial = ap (λ (model : ErrorModel). slice_index_or model.states.always c.args.state false) (sym c.kind-kind.ensures) ∙ sym c.is_initial.ensures ∙ c.if-is_initial.false in
    let composite = ap (λ (model : ErrorModel). model.is_composite) (sym c.kind-kind.ensures) ∙ ap (λ (model : ErrorModel). model.is_composite) (sym c.model.ensures) ∙ c.if-model.false in
    let at = c.steps_to.ensures ∙ ap (λ (model : ErrorModel). steps_to c.args.state model.behavior.steps) c.kind-kind.ensures in
    c.one_more-else-model.ensures _ (c.steps_places.ensures ∙ ap (λ (them : List Step). capped (places_of (map (step_formula site) them))) at) ∙ ap capped (sym (state-stepped site c.args.state initial composite))
