use Rattle.std.proofs.Common.{ap, sym, ◌∙◌, List}
use Rattle.error_models.specs.declared.model.ErrorModel.{ErrorModel}
use Rattle.fact_formulas.specs.Formulas.{FlowAt, all_flow_formulas, flows_at}
use Rattle.fact_formulas.specs.Facts.{linked_formula}
use Rattle.model_facts.specs.Facts.{outward_of}
use Rattle.flattener.specs.inner.Tables.{capped, places_of}
use Rattle.flattener.proofs.Places.{some-empty, some-full}
use Rattle.flattener.proofs.counts.flow_or_link_places.Goals as goal

pub returns-then-flowing-eq0 : goal.returns-then-flowing-eq0
returns-then-flowing-eq0 c =
    let site = c.args.site.now in
    let at = c.flows_at.ensures ∙ ap (λ (model : ErrorModel). flows_at c.args.point model.flows) c.kind.ensures in
    let same = c.flows_places-flowing.ensures ∙ ap (λ (them : List FlowAt). capped (places_of (all_flow_formulas site c.args.number them))) at in
    c.link_places.ensures ∙ ap capped (sym (some-empty (all_flow_formulas site c.args.number (flows_at c.args.point site.model.flows)) (linked_formula site.numbered c.args.number (outward_of site.owner c.args.point)) (sym c.if-flowing-eq0.true ∙ same)))

pub returns : goal.returns
returns c =
    let site = c.args.site.now in
    let at = c.flows_at.ensures ∙ ap (λ (model : ErrorModel). flows_at c.args.point model.flows) c.kind.ensures in
    let same = c.flows_places-flowing.ensures ∙ ap (λ (them : List FlowAt). capped (places_of (all_flow_formulas site c.args.number them))) at in
    c.one_more.ensures _ same ∙ ap capped (sym (some-full (all_flow_formulas site c.args.number (flows_at c.args.point site.model.flows)) (linked_formula site.numbered c.args.number (outward_of site.owner c.args.point)) c.flows_places-flowing.result same c.if-flowing-eq0.false))
