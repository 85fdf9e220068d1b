use Rattle.std.proofs.Common.{◌++◌, length, map, ap, ◌∙◌, subst}
use Rattle.std.proofs.lemmas.Result.{err_from_is_err_and}
use Rattle.plain_values.specs.declared.refusal.Code.TheVariants.{TooManyEvents}
use Rattle.plain_values.specs.Numbered.{numbers_below, numbered_from}
use Rattle.model_facts.specs.Facts.{arrivals, event_in, source_events}
use Rattle.model_facts.specs.Limits.{most_events}
use Rattle.model_facts.specs.inner.Steps.{AddsEvents, Exceeds}
use Rattle.model_facts.specs.declared.keys.EventKind.TheVariants.{Declared}
use Rattle.model_facts.proofs.StepLaws.{adds-then, events-parts, exceeds-first, exceeds-then}
use Rattle.model_facts.proofs.event_list.add_model.Goals as goal

pub returns-in_err-add_sources : goal.returns-in_err-add_sources
returns-in_err-add_sources c =
    let owner = c.args.owner in
    let count = ap length c.variants.ensures in
    let declared = ap (λ n. map (λ event. event_in owner (Declared event)) (numbers_below n)) count in
    let sources = ap (numbered_from (λ number flow. map (event_in owner) (source_events number flow)) 0) c.items.ensures.items in
    let points = numbered_from (λ number point. map (event_in owner) (arrivals c.args.linked.now owner number point)) 0 c.args.model.now.points in
    let whole = (λ i. declared i ++ (sources i ++ points)) ∙ events-parts owner c.args.linked.now c.args.model.now in
    let stop = c.in_err-add_sources.field-0.0 in
    let p = err_from_is_err_and c.from_residual-in_err-add_sources.result c.from_residual-in_err-add_sources.ensures.1 in
    rw (p.1, p.2)
    (subst (λ events. Exceeds most_events TooManyEvents (c.args.events.now ++ events) stop) whole
    (exceeds-then most_events TooManyEvents c.args.events.now c.add_declared.new.events _ _ stop c.in_ok-add_declared.ensures (exceeds-first most_events TooManyEvents c.add_declared.new.events _ points stop c.in_err-add_sources.ensures)))

pub returns : goal.returns
returns c =
    let owner = c.args.owner in
    let count = ap length c.variants.ensures in
    let declared = ap (λ n. map (λ event. event_in owner (Declared event)) (numbers_below n)) count in
    let sources = ap (numbered_from (λ number flow. map (event_in owner) (source_events number flow)) 0) c.items.ensures.items in
    let points = ap (numbered_from (λ number point. map (event_in owner) (arrivals c.args.linked.now owner number point)) 0) c.list.ensures.list in
    let whole = (λ i. declared i ++ (sources i ++ points i)) ∙ events-parts owner c.args.linked.now c.args.model.now in
    subst (λ events. AddsEvents c.args.events.now c.add_points.new.events events c.add_points.result) whole
    (adds-then most_events TooManyEvents c.args.events.now c.add_declared.new.events c.add_points.new.events _ _ c.add_points.result c.in_ok-add_declared.ensures
    (adds-then most_events TooManyEvents c.add_declared.new.events c.add_sources.new.events c.add_points.new.events _ _ c.add_points.result c.in_ok-add_sources.ensures c.add_points.ensures))
