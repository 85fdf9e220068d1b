-- The written sets of error model items (EMV2: type sets behind points, events and states).
use Rattle.std.specs.Prelude.{List, [], ◌∷◌, ◌++◌, flat_map, Option, Some, None, option_and_then, option_to_list}
use Rattle.aadl_syntax.specs.declared.error_model.Composite.{Composite}
use Rattle.aadl_syntax.specs.declared.error_model.Condition.{Condition, fold-Condition}
use Rattle.aadl_syntax.specs.declared.error_model.Condition.TheOpen.{Condition-F}
use Rattle.aadl_syntax.specs.declared.error_model.Condition.TheOpen as condition
use Rattle.aadl_syntax.specs.declared.error_model.EventDecl.{EventDecl}
use Rattle.aadl_syntax.specs.declared.error_model.Flow.{Flow}
use Rattle.aadl_syntax.specs.declared.error_model.FlowKind.{FlowKind}
use Rattle.aadl_syntax.specs.declared.error_model.FlowKind.TheVariants.{Source, Sink, Path}
use Rattle.aadl_syntax.specs.declared.error_model.Outgoing.{Outgoing}
use Rattle.aadl_syntax.specs.declared.error_model.PointItem.{PointItem}
use Rattle.aadl_syntax.specs.declared.error_model.StateDecl.{StateDecl}
use Rattle.aadl_syntax.specs.declared.error_model.StateRef.{StateRef}
use Rattle.aadl_syntax.specs.declared.error_model.Transition.{Transition}
use Rattle.aadl_syntax.specs.declared.error_model.TypeSet.{TypeSet}

-- the set of a propagation
abbrev pub point_sets : PointItem → List TypeSet
point_sets item = item.set ∷ []

-- the set of an event
abbrev pub event_sets : EventDecl → List TypeSet
event_sets event = option_to_list event.set

-- the set of a declared state
abbrev pub state_decl_sets : StateDecl → List TypeSet
state_decl_sets state = option_to_list state.set

-- the set behind a state
abbrev pub state_sets : StateRef → List TypeSet
state_sets state = option_to_list state.set

-- the set behind a state, if one is named
abbrev pub perhaps_state_sets : Option StateRef → List TypeSet
perhaps_state_sets state = option_to_list (option_and_then (λ state. state.set) state)

-- one condition, with the sets of its parts in their places
abbrev pub sets_step : Condition-F (List TypeSet) → List TypeSet
sets_step (condition.Atom atom) = option_to_list atom.set
sets_step (condition.All parts) = flat_map (λ part. part) parts
sets_step (condition.Any parts) = flat_map (λ part. part) parts
sets_step (condition.AtLeast least parts) = flat_map (λ part. part) parts
sets_step (condition.AtMost most parts spot) = flat_map (λ part. part) parts

-- the sets of a condition
abbrev pub condition_sets : Condition → List TypeSet
condition_sets = fold-Condition (List TypeSet) sets_step

-- the sets of a condition, if there is one
abbrev pub perhaps_condition_sets : Option Condition → List TypeSet
perhaps_condition_sets None = []
perhaps_condition_sets (Some condition) = condition_sets condition

-- the sets of a flow of this kind
abbrev pub flow_kind_sets : FlowKind → List TypeSet
flow_kind_sets (Source point set state) = option_to_list set ++ perhaps_state_sets state
flow_kind_sets (Sink point set) = option_to_list set
flow_kind_sets (Path from from_set to to_set mapping) = option_to_list from_set ++ option_to_list to_set

-- the sets of a flow
abbrev pub flow_sets : Flow → List TypeSet
flow_sets flow = flow_kind_sets flow.kind

-- the sets of a transition: of its source, its trigger and its targets
abbrev pub transition_sets : Transition → List TypeSet
transition_sets transition = perhaps_state_sets transition.source.state ++ (condition_sets transition.condition ++ flat_map state_sets transition.targets)

-- the sets of an outgoing condition: of its source, its trigger and its point
abbrev pub outgoing_sets : Outgoing → List TypeSet
outgoing_sets outgoing = perhaps_state_sets outgoing.source.state ++ (perhaps_condition_sets outgoing.condition ++ option_to_list outgoing.set)

-- the sets of a clause of composite states: of its condition and its target
abbrev pub composite_sets : Composite → List TypeSet
composite_sets composite = perhaps_condition_sets composite.condition ++ state_sets composite.target
