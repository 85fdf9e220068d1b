-- What conditions, transitions, outgoing conditions and flows of a component say (EMV2).
use Rattle.std.specs.Prelude.{ℕ, ◌∷◌, Bool, cond, ◌&&◌, nat_eq, List, [], map, filter, flat_map, Option, Some, None, option_map, option_to_list}
use Rattle.plain_values.specs.Numbered.{numbered_from}
use Rattle.error_libraries.specs.Search.{is_number_in}
use Rattle.propagation_points.specs.declared.held.Held.{Held}
use Rattle.propagation_points.specs.declared.held.Held.TheVariants as held
use Rattle.propagation_points.specs.declared.uses.ReachedPoint.{ReachedPoint}
use Rattle.propagation_points.specs.Uses.{covers}
use Rattle.error_flows.specs.declared.meaning.FlowMeaning.{FlowMeaning}
use Rattle.error_flows.specs.declared.meaning.FlowMeaning.TheVariants as flow
use Rattle.error_conditions.specs.declared.cause.Cause.{Cause, fold-Cause}
use Rattle.error_conditions.specs.declared.cause.Cause.TheOpen.{Cause-F}
use Rattle.error_conditions.specs.declared.cause.Cause.TheOpen as cause
use Rattle.error_behavior.specs.declared.steps.Emission.{Emission}
use Rattle.error_behavior.specs.declared.steps.Origin.{Origin}
use Rattle.error_behavior.specs.declared.steps.Origin.TheVariants.{Always, From}
use Rattle.error_behavior.specs.declared.steps.Step.{Step}
use Rattle.composite_states.specs.declared.meaning.ClauseMeaning.{ClauseMeaning}
use Rattle.instantiator.specs.Components.{component_below}
use Rattle.model_facts.specs.Facts.{fact_in}
use Rattle.model_facts.specs.declared.keys.EventKind.TheVariants.{Declared, Source}
use Rattle.model_facts.specs.declared.keys.FactKind.TheVariants.{State}
use Rattle.fault_system.specs.declared.formula.Formula.{Formula}
use Rattle.fault_system.specs.declared.formula.Formula.TheVariants.{True, And, Or, AtLeast}
use Rattle.fact_formulas.specs.Numbered.{Numbered, Site, entering, fact_formula, inward_types, own_event, own_fact, some_entering}

-- ---- conditions

-- that a component, if it is there, is in the state of a number
abbrev pub in_state : Numbered → Option ℕ → ℕ → Formula
in_state numbered None state = Or []
in_state numbered (Some component) state = fact_formula numbered (fact_in component (State state))

-- that the component below to which names lead is in the state of a number
abbrev pub below_in_state : Site → List (List ℕ) → ℕ → Formula
below_in_state site path state = in_state site.numbered (component_below site.numbered.assembly.instance.components site.owner path) state

-- one condition, with the formulas of its parts in their places
abbrev pub cause_step : Site → Cause-F Formula → Formula
cause_step site (cause.Event number) = own_event site (Declared number)
cause_step site (cause.State below) = below_in_state site below.path below.state
cause_step site (cause.Point reached) = some_entering site reached
cause_step site (cause.All parts) = And parts
cause_step site (cause.Any parts) = Or parts
cause_step site (cause.AtLeast least parts) = AtLeast least parts

-- A condition of a component.
abbrev pub cause_formula : Site → Cause → Formula
cause_formula site = fold-Cause Formula (cause_step site)

-- that a component is in the variant of a number
abbrev pub in_variant : Site → ℕ → Formula
in_variant site state = own_fact site (State state)

-- that a component is in a state: in the one that is selected, or in one of the variants that are
abbrev pub held_formula : Site → Held → Formula
held_formula site (held.One state) = in_variant site state
held_formula site (held.Any states) = Or (map (in_variant site) states)

-- that a component is where a transition starts: in a state, or anywhere
abbrev pub origin_formula : Site → Origin → Formula
origin_formula site Always = True
origin_formula site (From state) = held_formula site state

-- ---- transitions and clauses of composite states

-- What a transition says: its source and its trigger.
abbrev pub step_formula : Site → Step → Formula
step_formula site step = And (origin_formula site step.origin ∷ cause_formula site step.trigger ∷ [])

-- a transition for each of its branches to a state
abbrev pub branches_to : ℕ → Step → List Step
branches_to state step = map (λ target. step) (filter (λ target. nat_eq target state) step.targets)

-- The transitions to a state, one for each branch.
abbrev pub steps_to : ℕ → List Step → List Step
steps_to state steps = flat_map (branches_to state) steps

-- a condition for each of these targets that is a state; `others` has none
abbrev pub condition_for : ℕ → List ℕ → Option Cause → List Cause
condition_for state targets None = []
condition_for state targets (Some condition) = map (λ target. condition) (filter (λ target. nat_eq target state) targets)

-- the condition of a clause to a state, if that is one of its targets
abbrev pub condition_to : ℕ → ClauseMeaning → List Cause
condition_to state clause = condition_for state clause.targets clause.condition

-- The conditions of the clauses to a state.
abbrev pub conditions_to : ℕ → List ClauseMeaning → List Cause
conditions_to state clauses = flat_map (condition_to state) clauses

-- ---- outgoing conditions

-- What an outgoing condition says: its source, and its trigger if it has one.
abbrev pub emission_formula : Site → Emission → Formula
emission_formula site emission = And (origin_formula site emission.origin ∷ option_to_list (option_map (cause_formula site) emission.trigger))

-- the outgoing conditions of a point
abbrev pub emissions_at : ℕ → List Emission → List Emission
emissions_at point emissions = filter (λ emission. nat_eq emission.reached.point point) emissions

-- the formulas of the outgoing conditions that cover a type, of these
abbrev pub emission_formulas : Site → ℕ → List Emission → List Formula
emission_formulas site type emissions = map (emission_formula site) (filter (λ emission. covers emission.reached.types type) emissions)

-- ---- flows

-- a flow, and its place among the flows
pub record FlowAt : Type 0 where
  pub number : ℕ
  pub flow : FlowMeaning

-- the point out of which a flow comes
abbrev pub end_of : FlowMeaning → ℕ
end_of (flow.Event name reached) = reached.point
end_of (flow.State state reached) = reached.point
end_of (flow.Carry start end) = end
end_of (flow.Change start end types) = end

-- the flow, if it comes out of a point
abbrev pub flow_at : ℕ → ℕ → FlowMeaning → List FlowAt
flow_at point number meaning = cond (nat_eq (end_of meaning) point) (record { number = number; flow = meaning } ∷ []) []

-- the flows that come out of a point
abbrev pub flows_at : ℕ → List FlowMeaning → List FlowAt
flows_at point flows = numbered_from (flow_at point) 0 flows

-- whether a type may be at the inward side of a point, and is reached there
abbrev pub is_reached : Site → ReachedPoint → ℕ → Bool
is_reached site reached type = is_number_in (inward_types site reached.point) type && covers reached.types type

-- whether a flow covers a type that comes out of its point: a source the types of its set, a path that carries each type those
-- that it takes, and one that makes types those of its set
abbrev pub covers_type : Site → ℕ → FlowMeaning → Bool
covers_type site type (flow.Event name reached) = covers reached.types type
covers_type site type (flow.State state reached) = covers reached.types type
covers_type site type (flow.Carry start end) = is_reached site start type
covers_type site type (flow.Change start end types) = is_number_in types type

-- What a flow of this place says of a type that it covers: a source its event, or its state; a path that carries each type, that
-- it enters where the path begins; and one that makes types, that one of those that it takes enters there.
abbrev pub flow_formula : Site → ℕ → ℕ → FlowMeaning → Formula
flow_formula site type number (flow.Event name reached) = own_event site (Source number)
flow_formula site type number (flow.State state reached) = held_formula site state
flow_formula site type number (flow.Carry start end) = entering site start.point type
flow_formula site type number (flow.Change start end types) = some_entering site start

-- what a flow of this place says of a type, if it covers that
abbrev pub flow_formulas : Site → ℕ → ℕ → FlowMeaning → List Formula
flow_formulas site type number flow = cond (covers_type site type flow) (flow_formula site type number flow ∷ []) []

-- what these flows say of a type
abbrev pub all_flow_formulas : Site → ℕ → List FlowAt → List Formula
all_flow_formulas site type flows = flat_map (λ at. flow_formulas site type at.number at.flow) flows
