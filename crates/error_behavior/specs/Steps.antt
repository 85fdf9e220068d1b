-- The steps and the emissions of a component (EMV2: error behavior transitions, outgoing propagation conditions).
use Rattle.std.specs.Prelude.{ℕ, true, List, [], ◌++◌, flat_map, Option, Some, None, option_map, option_and_then, option_to_list}
use Rattle.std.specs.Option.{option_map_or}
use Rattle.aadl_syntax.specs.declared.error_model.Condition.{Condition}
use Rattle.aadl_syntax.specs.declared.error_model.Outgoing.{Outgoing}
use Rattle.aadl_syntax.specs.declared.error_model.StateRef.{StateRef}
use Rattle.aadl_syntax.specs.declared.error_model.Transition.{Transition}
use Rattle.plain_values.specs.declared.refusal.Refusal.{Refusal}
use Rattle.error_libraries.specs.Libraries.{Table}
use Rattle.propagation_points.specs.Settings.{Setting, refusals_in, held_in, reached_in, state_refusals_in}
use Rattle.propagation_points.specs.States.{held_numbers}
use Rattle.propagation_points.specs.Uses.{point_use}
use Rattle.error_conditions.specs.declared.cause.Cause.{Cause}
use Rattle.error_conditions.specs.Conditions.{condition_refusals, pair_of}
use Rattle.error_behavior.specs.declared.steps.Emission.{Emission}
use Rattle.error_behavior.specs.declared.steps.Origin.{Origin}
use Rattle.error_behavior.specs.declared.steps.Origin.TheVariants.{Always, From}
use Rattle.error_behavior.specs.declared.steps.Step.{Step}
use Rattle.error_behavior.specs.Triggers.{TriggerPlace, trigger_refusals, trigger_meaning}

-- ---- where they go from, and where to

-- From where a transition or an outgoing condition goes: from what its state selects, or from `all`.
abbrev pub origin_of : Table → Setting → Option StateRef → Option Origin
origin_of table setting None = Some Always
origin_of table setting (Some state) = option_map (λ held. From held) (held_in table setting state)

-- N11 and N10 of the state from which it goes, if it names one
abbrev pub origin_refusals : Table → Setting → Option StateRef → List Refusal
origin_refusals table setting None = []
origin_refusals table setting (Some state) = state_refusals_in table setting state

-- the variants that a target selects
abbrev pub target_numbers : Table → Setting → StateRef → List ℕ
target_numbers table setting target = option_map_or held_numbers (held_in table setting target) []

-- the variants of states to which a transition leads, those of a branch after those of the branch before; `same state` is none
abbrev pub targets_of : Table → Setting → List StateRef → List ℕ
targets_of table setting targets = flat_map (target_numbers table setting) targets

-- ---- transitions

-- the step of a transition, from this origin
abbrev pub step_from : TriggerPlace → Table → Transition → Origin → Step
step_from place table transition origin = record {
  origin = origin;
  trigger = (pair_of (trigger_meaning place table) transition.condition).holds;
  targets = targets_of table place.setting transition.targets;
}

-- The step of a transition: on its trigger, from its source to each of its targets.
abbrev pub step_of : TriggerPlace → Table → Transition → List Step
step_of place table transition = option_to_list (option_map (step_from place table transition) (origin_of table place.setting transition.source.state))

-- The refusals of a transition: of its source, its trigger and its targets.
abbrev pub transition_refusals : TriggerPlace → Table → Transition → List Refusal
transition_refusals place table transition =
    origin_refusals table place.setting transition.source.state
    ++ (condition_refusals table.profile (trigger_refusals place table) transition.condition ++ flat_map (state_refusals_in table place.setting) transition.targets)

-- ---- outgoing conditions

-- when a trigger may hold, if there is one: brackets may be empty
abbrev pub trigger_of : TriggerPlace → Table → Option Condition → Option Cause
trigger_of place table condition = option_map (λ condition. (pair_of (trigger_meaning place table) condition).holds) condition

-- the refusals of a trigger, if there is one
abbrev pub perhaps_refusals : TriggerPlace → Table → Option Condition → List Refusal
perhaps_refusals place table None = []
perhaps_refusals place table (Some condition) = condition_refusals table.profile (trigger_refusals place table) condition

-- The emission of an outgoing condition: on its trigger, if it has one, from its source the types of its set come out of its
-- point.
abbrev pub emission_of : TriggerPlace → Table → Outgoing → List Emission
emission_of place table outgoing =
    option_to_list (option_and_then (λ origin. option_map (λ reached. record { origin = origin; trigger = trigger_of place table outgoing.condition; reached = reached }) (reached_in table place.setting (point_use outgoing.point true outgoing.set))) (origin_of table place.setting outgoing.source.state))

-- The refusals of an outgoing condition: of its source, its trigger, its point and its set.
abbrev pub outgoing_refusals : TriggerPlace → Table → Outgoing → List Refusal
outgoing_refusals place table outgoing =
    origin_refusals table place.setting outgoing.source.state
    ++ (perhaps_refusals place table outgoing.condition ++ refusals_in table place.setting (point_use outgoing.point true outgoing.set))
