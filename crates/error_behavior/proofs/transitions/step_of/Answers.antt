use Rattle.std.proofs.Common.{ℕ, ◌≡◌, List, flat_map, option_map, option_to_list, ap, ◌∙◌}
use Rattle.noted_refusals.specs.inner.Noted.{noting}
use Rattle.propagation_points.specs.Settings.{state_refusals_in}
use Rattle.error_conditions.specs.declared.cause.Cause.{Cause}
use Rattle.error_conditions.specs.Conditions.{condition_refusals, pair_of}
use Rattle.noted_refusals.proofs.Laws.{noted-three}
use Rattle.error_behavior.specs.declared.steps.Origin.{Origin}
use Rattle.error_behavior.specs.declared.steps.Step.{Step}
use Rattle.error_behavior.specs.Steps.{origin_of, origin_refusals, step_from, targets_of}
use Rattle.error_behavior.specs.Triggers.{trigger_meaning, trigger_refusals}
use Rattle.error_behavior.proofs.transitions.step_of.Goals as goal

pub returns-clause-step : goal.returns-clause-step
returns-clause-step c =
    let place = c.args.place.now in
    let table = c.args.reading.now.types in
    let transition = c.args.transition.now in
    let origin = c.in_ok-origin.origin in
    let setting : c.place.inside.setting ≡ place.setting = ap (λ p. p.setting) c.place.view_is in
    let same : c.origin_of.new.reading.types ≡ table = c.in_ok-origin.ensures.kept in
    let still : c.cause_of.new.reading.types ≡ table = c.in_ok-trigger.ensures.kept ∙ same in
    let step : Cause → List ℕ → Origin → Step = λ trigger targets from. record { origin = from; trigger = trigger; targets = targets } in
    let meant = (pair_of (trigger_meaning place table) transition.condition).holds in
    ap option_to_list (c.step_from.ensures
    ∙ ap (λ trigger. option_map (step trigger c.in_ok-targets.targets) origin)
    (c.in_ok-trigger.ensures.cause ∙ ap (λ types. (pair_of (trigger_meaning place types) transition.condition).holds) same)
    ∙ ap (λ targets. option_map (step meant targets) origin)
    (c.in_ok-targets.ensures.targets ∙ (λ i. targets_of (still i) (setting i) (c.items.ensures.items i)))
    ∙ ap (option_map (step_from place table transition))
    (c.in_ok-origin.ensures.origin ∙ ap (λ each. origin_of table each transition.source.state) setting))

pub returns-clause-noted : goal.returns-clause-noted
returns-clause-noted c =
    let place = c.args.place.now in
    let table = c.args.reading.now.types in
    let transition = c.args.transition.now in
    let setting : c.place.inside.setting ≡ place.setting = ap (λ p. p.setting) c.place.view_is in
    let same : c.origin_of.new.reading.types ≡ table = c.in_ok-origin.ensures.kept in
    let still : c.cause_of.new.reading.types ≡ table = c.in_ok-trigger.ensures.kept ∙ same in
    noted-three c.args.reading.now.refusals c.origin_of.new.reading.refusals c.cause_of.new.reading.refusals (origin_refusals table place.setting transition.source.state) (condition_refusals table.profile (trigger_refusals place table) transition.condition)
    (c.in_ok-origin.ensures.noted ∙ ap (λ each. noting c.args.reading.now.refusals (origin_refusals table each transition.source.state)) setting)
    (c.in_ok-trigger.ensures.noted ∙ ap (λ types. noting c.origin_of.new.reading.refusals (condition_refusals types.profile (trigger_refusals place types) transition.condition)) same)
    c.targets_of.new.reading.refusals (flat_map (state_refusals_in table place.setting) transition.targets)
    (c.in_ok-targets.ensures.noted ∙ (λ i. noting c.cause_of.new.reading.refusals (flat_map (state_refusals_in (still i) (setting i)) (c.items.ensures.items i))))
