use Rattle.std.proofs.Common.{ap, sym, ◌∙◌, List}
use Rattle.error_models.specs.declared.model.ErrorModel.{ErrorModel}
use Rattle.error_behavior.specs.declared.steps.Emission.{Emission}
use Rattle.fact_formulas.specs.Formulas.{emission_formulas, emissions_at}
use Rattle.fact_formulas.specs.Facts.{flow_or_link}
use Rattle.flattener.specs.inner.Tables.{capped, places_of}
use Rattle.flattener.proofs.Places.{some-empty, some-full}
use Rattle.flattener.proofs.counts.exit_places.Goals as goal

pub returns-then-emitted-eq0 : goal.returns-then-emitted-eq0
returns-then-emitted-eq0 c =
    let site = c.args.site.now in
    let at = c.emissions_at.ensures ∙ ap (λ (model : ErrorModel). emissions_at c.args.point model.behavior.emissions) c.kind.ensures in
    let same = c.emissions_places-emitted.ensures ∙ ap (λ (them : List Emission). capped (places_of (emission_formulas site c.args.number them))) at in
    c.flow_or_link_places.ensures ∙ ap capped (sym (some-empty (emission_formulas site c.args.number (emissions_at c.args.point site.model.behavior.emissions)) (flow_or_link site c.args.point c.args.number) (sym c.if-emitted-eq0.true ∙ same)))

pub returns : goal.returns
returns c =
    let site = c.args.site.now in
    let at = c.emissions_at.ensures ∙ ap (λ (model : ErrorModel). emissions_at c.args.point model.behavior.emissions) c.kind.ensures in
    let same = c.emissions_places-emitted.ensures ∙ ap (λ (them : List Emission). capped (places_of (emission_formulas site c.args.number them))) at in
    c.one_more.ensures _ same ∙ ap capped (sym (some-full (emission_formulas site c.args.number (emissions_at c.args.point site.model.behavior.emissions)) (flow_or_link site c.args.point c.args.number) c.emissions_places-emitted.result same c.if-emitted-eq0.false))
