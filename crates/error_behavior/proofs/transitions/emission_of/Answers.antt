use Rattle.std.proofs.Common.{◌≡◌, true, Option, option_and_then, option_map, option_to_list, ap, ◌∙◌}
use Rattle.noted_refusals.specs.inner.Noted.{noting}
use Rattle.propagation_points.specs.Settings.{reached_in, refusals_in}
use Rattle.propagation_points.specs.Uses.{point_use}
use Rattle.noted_refusals.proofs.Laws.{noted-three}
use Rattle.propagation_points.specs.declared.uses.ReachedPoint.{ReachedPoint}
use Rattle.error_conditions.specs.declared.cause.Cause.{Cause}
use Rattle.error_behavior.specs.declared.steps.Emission.{Emission}
use Rattle.error_behavior.specs.declared.steps.Origin.{Origin}
use Rattle.error_behavior.specs.Steps.{origin_of, origin_refusals, perhaps_refusals, trigger_of}
use Rattle.error_behavior.proofs.transitions.emission_of.Goals as goal

pub returns-clause-emission : goal.returns-clause-emission
returns-clause-emission c =
    let place = c.args.place.now in
    let table = c.args.reading.now.types in
    let outgoing = c.args.outgoing.now in
    let origin = c.in_ok-origin.origin in
    let setting : c.place.inside.setting ≡ place.setting = ap (λ p. p.setting) c.place.view_is in
    let same : c.origin_of.new.reading.types ≡ table = c.in_ok-origin.ensures.kept in
    let still : c.trigger_of.new.reading.types ≡ table = c.in_ok-trigger.ensures.kept ∙ same in
    let emission : Option Cause → Option ReachedPoint → Origin → Option Emission = λ trigger reached from. option_map (λ point. record { origin = from; trigger = trigger; reached = point }) reached in
    let meant = trigger_of place table outgoing.condition in
    let used = point_use outgoing.point true outgoing.set in
    ap option_to_list (c.emission_from.ensures
    ∙ ap (λ trigger. option_and_then (emission trigger c.in_ok-reached.reached) origin)
    (c.in_ok-trigger.ensures.trigger ∙ ap (λ types. trigger_of place types outgoing.condition) same)
    ∙ ap (λ reached. option_and_then (emission meant reached) origin)
    (c.in_ok-reached.ensures.reached ∙ (λ i. reached_in (still i) (setting i) (c.new-used.ensures i)))
    ∙ ap (option_and_then (emission meant (reached_in table place.setting used)))
    (c.in_ok-origin.ensures.origin ∙ ap (λ each. origin_of table each outgoing.source.state) setting))

pub returns-clause-noted : goal.returns-clause-noted
returns-clause-noted c =
    let place = c.args.place.now in
    let table = c.args.reading.now.types in
    let outgoing = c.args.outgoing.now in
    let setting : c.place.inside.setting ≡ place.setting = ap (λ p. p.setting) c.place.view_is in
    let same : c.origin_of.new.reading.types ≡ table = c.in_ok-origin.ensures.kept in
    let still : c.trigger_of.new.reading.types ≡ table = c.in_ok-trigger.ensures.kept ∙ same in
    noted-three c.args.reading.now.refusals c.origin_of.new.reading.refusals c.trigger_of.new.reading.refusals (origin_refusals table place.setting outgoing.source.state) (perhaps_refusals place table outgoing.condition)
    (c.in_ok-origin.ensures.noted ∙ ap (λ each. noting c.args.reading.now.refusals (origin_refusals table each outgoing.source.state)) setting)
    (c.in_ok-trigger.ensures.noted ∙ ap (λ types. noting c.origin_of.new.reading.refusals (perhaps_refusals place types outgoing.condition)) same)
    c.reached.new.reading.refusals (refusals_in table place.setting (point_use outgoing.point true outgoing.set))
    (c.in_ok-reached.ensures.noted ∙ (λ i. noting c.trigger_of.new.reading.refusals (refusals_in (still i) (setting i) (c.new-used.ensures i))))
