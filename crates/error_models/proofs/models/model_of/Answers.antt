use Rattle.std.proofs.Common.{◌≡◌, Contains, Some, ap, ◌∙◌, subst, sym}
use Rattle.std.specs.Option.{option_or}
use Rattle.std.proofs.lemmas.Result.{err_from_is_err_and}
use Rattle.plain_values.specs.Order.{least}
use Rattle.propagation_points.specs.Points.{point_refusals, points_of}
use Rattle.error_flows.specs.Flows.{all_flow_refusals, flows_of, sinks_of}
use Rattle.error_behavior.specs.Behavior.{behavior_refusals, behavior_of}
use Rattle.error_machines.specs.States.{states_of}
use Rattle.composite_states.specs.Composites.{clauses_of, composite_clause_refusals}
use Rattle.plain_values.specs.inner.Stops.{StopsAt}
use Rattle.noted_refusals.specs.Groups.{or_group}
use Rattle.noted_refusals.specs.inner.Noted.{TellsFirst}
use Rattle.noted_refusals.proofs.Laws.{none-in, told-here, told-least, told-next}
use Rattle.error_models.specs.Below.{states_below}
use Rattle.error_models.specs.Models.{is_composite}
use Rattle.error_models.proofs.KindLaws.{none-or, none-stops, or-stops}
use Rattle.error_models.proofs.models.model_of.Goals as goal

pub returns-in_err-behavior-clause-refused : goal.returns-in_err-behavior-clause-refused
returns-in_err-behavior-clause-refused c =
    let table = c.args.reading.now.types in
    let effective = c.args.effective.now in
    let machine = c.args.machine.now in
    let below = states_below c.args.below.now.tree.profile c.args.below.now.tree.packages c.args.below.now.tree.kinds (Some c.args.below.now.classifier) in
    let stop = c.in_err-behavior.field-0.0 in
    let first = least (point_refusals table effective) in
    let second = least (behavior_refusals table (points_of table effective) machine effective) in
    let third = least (all_flow_refusals table (points_of table effective) (states_of table machine).sorts effective) in
    let last = least (composite_clause_refusals below table (points_of table effective) (states_of table machine) effective) in
    let start : c.states_of.new.types ≡ table = c.in_ok-states.ensures.kept ∙ c.in_ok-points.ensures.kept in
    let same : least (behavior_refusals c.states_of.new.types c.in_ok-points.points machine effective) ≡ second =
    λ i. least (behavior_refusals (start i) (c.in_ok-points.ensures.points i) machine effective) in
    let p = err_from_is_err_and c.from_residual-in_err-behavior.result c.from_residual-in_err-behavior.ensures.1 in
    rw (p.1, p.2) (none-stops first (option_or second (option_or third last)) stop c.in_ok-points.ensures.accepted
    (or-stops second (option_or third last) stop (subst (λ o. StopsAt o stop) same c.in_err-behavior.ensures.refused)))

pub returns-in_err-flows-clause-refused : goal.returns-in_err-flows-clause-refused
returns-in_err-flows-clause-refused c =
    let table = c.args.reading.now.types in
    let effective = c.args.effective.now in
    let machine = c.args.machine.now in
    let below = states_below c.args.below.now.tree.profile c.args.below.now.tree.packages c.args.below.now.tree.kinds (Some c.args.below.now.classifier) in
    let stop = c.in_err-flows.field-0.0 in
    let first = least (point_refusals table effective) in
    let second = least (behavior_refusals table (points_of table effective) machine effective) in
    let third = least (all_flow_refusals table (points_of table effective) (states_of table machine).sorts effective) in
    let last = least (composite_clause_refusals below table (points_of table effective) (states_of table machine) effective) in
    let start : c.states_of.new.types ≡ table = c.in_ok-states.ensures.kept ∙ c.in_ok-points.ensures.kept in
    let states : c.in_ok-states.states ≡ states_of table machine = c.in_ok-states.ensures.states ∙ ap (λ types. states_of types machine) c.in_ok-points.ensures.kept in
    let kept : c.behavior.new.reading.types ≡ table = c.in_ok-behavior.ensures.kept ∙ start in
    let same : least (behavior_refusals c.states_of.new.types c.in_ok-points.points machine effective) ≡ second =
    λ i. least (behavior_refusals (start i) (c.in_ok-points.ensures.points i) machine effective) in
    let next : least (all_flow_refusals c.behavior.new.reading.types c.in_ok-points.points c.in_ok-states.states.sorts effective) ≡ third =
    λ i. least (all_flow_refusals (kept i) (c.in_ok-points.ensures.points i) (states i).sorts effective) in
    let p = err_from_is_err_and c.from_residual-in_err-flows.result c.from_residual-in_err-flows.ensures.1 in
    rw (p.1, p.2) (none-stops first (option_or second (option_or third last)) stop c.in_ok-points.ensures.accepted
    (none-stops second (option_or third last) stop (sym same ∙ c.in_ok-behavior.ensures.accepted) (or-stops third last stop (subst (λ o. StopsAt o stop) next c.in_err-flows.ensures.refused))))

pub returns-in_err-composites-clause-refused : goal.returns-in_err-composites-clause-refused
returns-in_err-composites-clause-refused c =
    let table = c.args.reading.now.types in
    let effective = c.args.effective.now in
    let machine = c.args.machine.now in
    let below = states_below c.args.below.now.tree.profile c.args.below.now.tree.packages c.args.below.now.tree.kinds (Some c.args.below.now.classifier) in
    let stop = c.in_err-composites.field-0.0 in
    let first = least (point_refusals table effective) in
    let second = least (behavior_refusals table (points_of table effective) machine effective) in
    let third = least (all_flow_refusals table (points_of table effective) (states_of table machine).sorts effective) in
    let last = least (composite_clause_refusals below table (points_of table effective) (states_of table machine) effective) in
    let start : c.states_of.new.types ≡ table = c.in_ok-states.ensures.kept ∙ c.in_ok-points.ensures.kept in
    let states : c.in_ok-states.states ≡ states_of table machine = c.in_ok-states.ensures.states ∙ ap (λ types. states_of types machine) c.in_ok-points.ensures.kept in
    let kept : c.behavior.new.reading.types ≡ table = c.in_ok-behavior.ensures.kept ∙ start in
    let kept_on : c.flows.new.reading.types ≡ table = c.in_ok-flows.ensures.kept ∙ kept in
    let same : least (behavior_refusals c.states_of.new.types c.in_ok-points.points machine effective) ≡ second =
    λ i. least (behavior_refusals (start i) (c.in_ok-points.ensures.points i) machine effective) in
    let next : least (all_flow_refusals c.behavior.new.reading.types c.in_ok-points.points c.in_ok-states.states.sorts effective) ≡ third =
    λ i. least (all_flow_refusals (kept i) (c.in_ok-points.ensures.points i) (states i).sorts effective) in
    let here : least (composite_clause_refusals below c.flows.new.reading.types c.in_ok-points.points c.in_ok-states.states effective) ≡ last =
    λ i. least (composite_clause_refusals below (kept_on i) (c.in_ok-points.ensures.points i) (states i) effective) in
    let p = err_from_is_err_and c.from_residual-in_err-composites.result c.from_residual-in_err-composites.ensures.1 in
    rw (p.1, p.2) (none-stops first (option_or second (option_or third last)) stop c.in_ok-points.ensures.accepted
    (none-stops second (option_or third last) stop (sym same ∙ c.in_ok-behavior.ensures.accepted)
    (none-stops third last stop (sym next ∙ c.in_ok-flows.ensures.accepted) (subst (λ o. StopsAt o stop) here c.in_err-composites.ensures.refused))))

pub returns-in_err-points-clause-told : goal.returns-in_err-points-clause-told
returns-in_err-points-clause-told c =
    let table = c.args.reading.now.types in
    let effective = c.args.effective.now in
    let machine = c.args.machine.now in
    let below = states_below c.args.below.now.tree.profile c.args.below.now.tree.packages c.args.below.now.tree.kinds (Some c.args.below.now.classifier) in
    let first = point_refusals table effective in
    let second = behavior_refusals table (points_of table effective) machine effective in
    let third = all_flow_refusals table (points_of table effective) (states_of table machine).sorts effective in
    let last = composite_clause_refusals below table (points_of table effective) (states_of table machine) effective in
    let noted = c.points.new.reading.refusals in
    let stop = c.in_err-points.field-0.0 in
    let p = err_from_is_err_and c.from_residual.result c.from_residual.ensures.1 in
    rw (p.1, p.2) (told-here first (or_group second (or_group third last)) noted stop (told-least first noted stop c.in_err-points.ensures.refused c.in_err-points.ensures.told))

pub returns-in_err-behavior-clause-told : goal.returns-in_err-behavior-clause-told
returns-in_err-behavior-clause-told c =
    let table = c.args.reading.now.types in
    let effective = c.args.effective.now in
    let machine = c.args.machine.now in
    let below = states_below c.args.below.now.tree.profile c.args.below.now.tree.packages c.args.below.now.tree.kinds (Some c.args.below.now.classifier) in
    let first = point_refusals table effective in
    let second = behavior_refusals table (points_of table effective) machine effective in
    let third = all_flow_refusals table (points_of table effective) (states_of table machine).sorts effective in
    let last = composite_clause_refusals below table (points_of table effective) (states_of table machine) effective in
    let start : c.states_of.new.types ≡ table = c.in_ok-states.ensures.kept ∙ c.in_ok-points.ensures.kept in
    let same : behavior_refusals c.states_of.new.types c.in_ok-points.points machine effective ≡ second =
    λ i. behavior_refusals (start i) (c.in_ok-points.ensures.points i) machine effective in
    let noted = c.behavior.new.reading.refusals in
    let stop = c.in_err-behavior.field-0.0 in
    let p = err_from_is_err_and c.from_residual-in_err-behavior.result c.from_residual-in_err-behavior.ensures.1 in
    let its = told-least (behavior_refusals c.states_of.new.types c.in_ok-points.points machine effective) noted stop c.in_err-behavior.ensures.refused c.in_err-behavior.ensures.told in
    rw (p.1, p.2) (told-next first (or_group second (or_group third last)) noted stop (none-in first c.in_ok-points.ensures.accepted)
    (told-here second (or_group third last) noted stop (subst (λ group. TellsFirst group noted stop) same its)))

pub returns-in_err-flows-clause-told : goal.returns-in_err-flows-clause-told
returns-in_err-flows-clause-told c =
    let table = c.args.reading.now.types in
    let effective = c.args.effective.now in
    let machine = c.args.machine.now in
    let below = states_below c.args.below.now.tree.profile c.args.below.now.tree.packages c.args.below.now.tree.kinds (Some c.args.below.now.classifier) in
    let first = point_refusals table effective in
    let second = behavior_refusals table (points_of table effective) machine effective in
    let third = all_flow_refusals table (points_of table effective) (states_of table machine).sorts effective in
    let last = composite_clause_refusals below table (points_of table effective) (states_of table machine) effective in
    let start : c.states_of.new.types ≡ table = c.in_ok-states.ensures.kept ∙ c.in_ok-points.ensures.kept in
    let states : c.in_ok-states.states ≡ states_of table machine = c.in_ok-states.ensures.states ∙ ap (λ types. states_of types machine) c.in_ok-points.ensures.kept in
    let kept : c.behavior.new.reading.types ≡ table = c.in_ok-behavior.ensures.kept ∙ start in
    let same : behavior_refusals c.states_of.new.types c.in_ok-points.points machine effective ≡ second =
    λ i. behavior_refusals (start i) (c.in_ok-points.ensures.points i) machine effective in
    let next : all_flow_refusals c.behavior.new.reading.types c.in_ok-points.points c.in_ok-states.states.sorts effective ≡ third =
    λ i. all_flow_refusals (kept i) (c.in_ok-points.ensures.points i) (states i).sorts effective in
    let noted = c.flows.new.reading.refusals in
    let stop = c.in_err-flows.field-0.0 in
    let p = err_from_is_err_and c.from_residual-in_err-flows.result c.from_residual-in_err-flows.ensures.1 in
    let its = told-least (all_flow_refusals c.behavior.new.reading.types c.in_ok-points.points c.in_ok-states.states.sorts effective) noted stop c.in_err-flows.ensures.refused c.in_err-flows.ensures.told in
    rw (p.1, p.2) (told-next first (or_group second (or_group third last)) noted stop (none-in first c.in_ok-points.ensures.accepted)
    (told-next second (or_group third last) noted stop (none-in second (ap least (sym same) ∙ c.in_ok-behavior.ensures.accepted))
    (told-here third last noted stop (subst (λ group. TellsFirst group noted stop) next its))))

pub returns-in_err-composites-clause-told : goal.returns-in_err-composites-clause-told
returns-in_err-composites-clause-told c =
    let table = c.args.reading.now.types in
    let effective = c.args.effective.now in
    let machine = c.args.machine.now in
    let below = states_below c.args.below.now.tree.profile c.args.below.now.tree.packages c.args.below.now.tree.kinds (Some c.args.below.now.classifier) in
    let first = point_refusals table effective in
    let second = behavior_refusals table (points_of table effective) machine effective in
    let third = all_flow_refusals table (points_of table effective) (states_of table machine).sorts effective in
    let last = composite_clause_refusals below table (points_of table effective) (states_of table machine) effective in
    let start : c.states_of.new.types ≡ table = c.in_ok-states.ensures.kept ∙ c.in_ok-points.ensures.kept in
    let states : c.in_ok-states.states ≡ states_of table machine = c.in_ok-states.ensures.states ∙ ap (λ types. states_of types machine) c.in_ok-points.ensures.kept in
    let kept : c.behavior.new.reading.types ≡ table = c.in_ok-behavior.ensures.kept ∙ start in
    let same : behavior_refusals c.states_of.new.types c.in_ok-points.points machine effective ≡ second =
    λ i. behavior_refusals (start i) (c.in_ok-points.ensures.points i) machine effective in
    let next : all_flow_refusals c.behavior.new.reading.types c.in_ok-points.points c.in_ok-states.states.sorts effective ≡ third =
    λ i. all_flow_refusals (kept i) (c.in_ok-points.ensures.points i) (states i).sorts effective in
    let kept_on : c.flows.new.reading.types ≡ table = c.in_ok-flows.ensures.kept ∙ kept in
    let here : composite_clause_refusals below c.flows.new.reading.types c.in_ok-points.points c.in_ok-states.states effective ≡ last =
    λ i. composite_clause_refusals below (kept_on i) (c.in_ok-points.ensures.points i) (states i) effective in
    let noted = c.composites.new.reading.refusals in
    let stop = c.in_err-composites.field-0.0 in
    let p = err_from_is_err_and c.from_residual-in_err-composites.result c.from_residual-in_err-composites.ensures.1 in
    let its = told-least (composite_clause_refusals below c.flows.new.reading.types c.in_ok-points.points c.in_ok-states.states effective) noted stop c.in_err-composites.ensures.refused c.in_err-composites.ensures.told in
    rw (p.1, p.2) (told-next first (or_group second (or_group third last)) noted stop (none-in first c.in_ok-points.ensures.accepted)
    (told-next second (or_group third last) noted stop (none-in second (ap least (sym same) ∙ c.in_ok-behavior.ensures.accepted))
    (told-next third last noted stop (none-in third (ap least (sym next) ∙ c.in_ok-flows.ensures.accepted)) (subst (λ group. TellsFirst group noted stop) here its))))

pub returns-clause-model : goal.returns-clause-model
returns-clause-model c =
    let effective = c.args.effective.now in
    let machine = c.args.machine.now in
    let table = c.args.reading.now.types in
    let below = states_below c.args.below.now.tree.profile c.args.below.now.tree.packages c.args.below.now.tree.kinds (Some c.args.below.now.classifier) in
    let start : c.states_of.new.types ≡ table = c.in_ok-states.ensures.kept ∙ c.in_ok-points.ensures.kept in
    let states : c.in_ok-states.states ≡ states_of table machine = c.in_ok-states.ensures.states ∙ ap (λ types. states_of types machine) c.in_ok-points.ensures.kept in
    let kept : c.behavior.new.reading.types ≡ table = c.in_ok-behavior.ensures.kept ∙ start in
    let kept_on : c.flows.new.reading.types ≡ table = c.in_ok-flows.ensures.kept ∙ kept in
    let behavior : c.in_ok-behavior.behavior ≡ behavior_of table (points_of table effective) machine effective =
    c.in_ok-behavior.ensures.behavior ∙ (λ i. behavior_of (start i) (c.in_ok-points.ensures.points i) machine effective) in
    let flows : c.in_ok-flows.flows.meanings ≡ flows_of table (points_of table effective) (states_of table machine).sorts effective =
    c.in_ok-flows.ensures.flows ∙ (λ i. flows_of (kept i) (c.in_ok-points.ensures.points i) (states i).sorts effective) in
    let sinks : c.in_ok-flows.flows.sinks ≡ sinks_of table (points_of table effective) (states_of table machine).sorts effective =
    c.in_ok-flows.ensures.sinks ∙ (λ i. sinks_of (kept i) (c.in_ok-points.ensures.points i) (states i).sorts effective) in
    let composites : c.in_ok-composites.composites ≡ clauses_of below table (points_of table effective) (states_of table machine) effective =
    c.in_ok-composites.ensures.clauses ∙ (λ i. clauses_of below (kept_on i) (c.in_ok-points.ensures.points i) (states i) effective) in
    let has : c.is_composite.result ≡ is_composite effective.behavior.composites = c.is_composite.ensures ∙ ap is_composite c.items.ensures.items in
    λ i. record {
      points = c.in_ok-points.ensures.points i;
      states = states i;
      behavior = behavior i;
      flows = flows i;
      sinks = sinks i;
      composites = composites i;
      is_composite = has i;
    }

pub returns-clause-accepted : goal.returns-clause-accepted
returns-clause-accepted c =
    let table = c.args.reading.now.types in
    let effective = c.args.effective.now in
    let machine = c.args.machine.now in
    let below = states_below c.args.below.now.tree.profile c.args.below.now.tree.packages c.args.below.now.tree.kinds (Some c.args.below.now.classifier) in
    let first = least (point_refusals table effective) in
    let second = least (behavior_refusals table (points_of table effective) machine effective) in
    let third = least (all_flow_refusals table (points_of table effective) (states_of table machine).sorts effective) in
    let last = least (composite_clause_refusals below table (points_of table effective) (states_of table machine) effective) in
    let start : c.states_of.new.types ≡ table = c.in_ok-states.ensures.kept ∙ c.in_ok-points.ensures.kept in
    let states : c.in_ok-states.states ≡ states_of table machine = c.in_ok-states.ensures.states ∙ ap (λ types. states_of types machine) c.in_ok-points.ensures.kept in
    let kept : c.behavior.new.reading.types ≡ table = c.in_ok-behavior.ensures.kept ∙ start in
    let kept_on : c.flows.new.reading.types ≡ table = c.in_ok-flows.ensures.kept ∙ kept in
    let same : least (behavior_refusals c.states_of.new.types c.in_ok-points.points machine effective) ≡ second =
    λ i. least (behavior_refusals (start i) (c.in_ok-points.ensures.points i) machine effective) in
    let next : least (all_flow_refusals c.behavior.new.reading.types c.in_ok-points.points c.in_ok-states.states.sorts effective) ≡ third =
    λ i. least (all_flow_refusals (kept i) (c.in_ok-points.ensures.points i) (states i).sorts effective) in
    let here : least (composite_clause_refusals below c.flows.new.reading.types c.in_ok-points.points c.in_ok-states.states effective) ≡ last =
    λ i. least (composite_clause_refusals below (kept_on i) (c.in_ok-points.ensures.points i) (states i) effective) in
    none-or first (option_or second (option_or third last)) c.in_ok-points.ensures.accepted
    (none-or second (option_or third last) (sym same ∙ c.in_ok-behavior.ensures.accepted)
    (none-or third last (sym next ∙ c.in_ok-flows.ensures.accepted) (sym here ∙ c.in_ok-composites.ensures.accepted)))
