-- By which further names the events of a component are rated: a state to which an event alone leads, and what stands for that state.
use Rattle.std.specs.Prelude.{ℕ, Bool, false, cond, ◌&&◌, is_some, List, [], ◌∷◌, ◌++◌, filter_map, flat_map, map, Option, None, Some, option_and_then}
use Rattle.std.specs.List.{list_all, list_any}
use Rattle.std.specs.Option.{option_map_or}
use Rattle.plain_values.specs.Name.{is_same_text}
use Rattle.aadl_syntax.specs.declared.error_model.Condition.{Condition, fold-Condition}
use Rattle.aadl_syntax.specs.declared.error_model.Condition.TheOpen.{Condition-F}
use Rattle.aadl_syntax.specs.declared.error_model.Condition.TheOpen as part
use Rattle.aadl_syntax.specs.declared.error_model.EventDecl.{EventDecl}
use Rattle.aadl_syntax.specs.declared.error_model.Flow.{Flow}
use Rattle.aadl_syntax.specs.declared.error_model.FlowKind.{FlowKind}
use Rattle.aadl_syntax.specs.declared.error_model.FlowKind.TheVariants.{Source, Sink, Path}
use Rattle.aadl_syntax.specs.declared.error_model.MachineDecl.{MachineDecl}
use Rattle.aadl_syntax.specs.declared.error_model.Outgoing.{Outgoing}
use Rattle.aadl_syntax.specs.declared.error_model.StateDecl.{StateDecl}
use Rattle.aadl_syntax.specs.declared.error_model.StateRef.{StateRef}
use Rattle.aadl_syntax.specs.declared.error_model.Term.{Term}
use Rattle.aadl_syntax.specs.declared.error_model.Term.TheVariants.{NoError, One, Product}
use Rattle.aadl_syntax.specs.declared.error_model.Transition.{Transition}
use Rattle.aadl_syntax.specs.declared.error_model.TypeSet.{TypeSet}
use Rattle.component_extension.specs.declared.effective.Effective.{Effective}
use Rattle.package_index.specs.Names.{last, only}
use Rattle.rate_keys.specs.declared.key.RateKey.{RateKey}

-- ---- the texts of a component

-- the transitions of a machine, if there is one
abbrev pub machine_transitions : Option MachineDecl → List Transition
machine_transitions machine = option_map_or (λ decl. decl.transitions) machine []

-- the events of a machine, if there is one
abbrev pub machine_events : Option MachineDecl → List EventDecl
machine_events machine = option_map_or (λ decl. decl.events) machine []

-- the states of a machine, if there is one
abbrev pub machine_states : Option MachineDecl → List StateDecl
machine_states machine = option_map_or (λ decl. decl.states) machine []

-- the transitions of a component: those of its machine, and then those of its clauses
abbrev pub transitions_of : Option MachineDecl → Effective → List Transition
transitions_of machine effective = machine_transitions machine ++ map (λ scoped. scoped.item) effective.behavior.transitions

-- the names of the events that a component declares, in its machine and in its clauses
abbrev pub event_names : Option MachineDecl → Effective → List (List ℕ)
event_names machine effective = map (λ event. event.name) (machine_events machine) ++ map (λ scoped. scoped.item.name) effective.behavior.events

-- the flows of a component
abbrev pub flows_of : Effective → List Flow
flows_of effective = map (λ scoped. scoped.item) effective.propagations.flows

-- the outgoing conditions of a component
abbrev pub outgoing_of : Effective → List Outgoing
outgoing_of effective = map (λ scoped. scoped.item) effective.behavior.outgoing

-- ---- what a condition says of events

-- whether a name is one of these
abbrev pub is_among : List (List ℕ) → List ℕ → Bool
is_among events name = list_any (λ event. is_same_text event name) events

-- the event that these names are: one identifier, that of an event
abbrev pub event_of : List (List ℕ) → List (List ℕ) → Option (List ℕ)
event_of events names = option_and_then (λ name. cond (is_among events name) (Some name) None) (only names)

-- whether these names are an event
abbrev pub is_event : List (List ℕ) → List (List ℕ) → Bool
is_event events names = is_some (event_of events names)

-- one condition, with what is so of its parts in their places
abbrev pub names_step : List (List ℕ) → Condition-F Bool → Bool
names_step events (part.Atom atom) = is_event events atom.names
names_step events (part.All parts) = list_any (λ part. part) parts
names_step events (part.Any parts) = list_any (λ part. part) parts
names_step events (part.AtLeast least parts) = list_any (λ part. part) parts
names_step events (part.AtMost most parts spot) = list_any (λ part. part) parts

-- whether an event occurs in a condition
abbrev pub names_event : List (List ℕ) → Condition → Bool
names_event events = fold-Condition Bool (names_step events)

-- one condition, with the event that each part is in its place
abbrev pub alone_step : List (List ℕ) → Condition-F (Option (List ℕ)) → Option (List ℕ)
alone_step events (part.Atom atom) = cond (is_some atom.set) None (event_of events atom.names)
alone_step events (part.All parts) = None
alone_step events (part.Any parts) = None
alone_step events (part.AtLeast least parts) = None
alone_step events (part.AtMost most parts spot) = None

-- the event that a condition is, where it is one event without a set of types, and nothing else
abbrev pub event_alone : List (List ℕ) → Condition → Option (List ℕ)
event_alone events = fold-Condition (Option (List ℕ)) (alone_step events)

-- ---- which event alone leads to a state

-- whether a transition leads to a state of this name
abbrev pub leads_to : List ℕ → Transition → Bool
leads_to state transition = list_any (λ target. is_same_text target.name state) transition.targets

-- what a transition says of a state: nothing, where it does not lead to it or no event occurs in its condition; else the event that its
-- condition is, or that it is more than one event
abbrev pub said_by : List (List ℕ) → List ℕ → Transition → Option (Option (List ℕ))
said_by events state transition =
    cond (leads_to state transition && names_event events transition.condition) (Some (event_alone events transition.condition)) None

-- whether this is that event
abbrev pub is_event_of : List ℕ → Option (List ℕ) → Bool
is_event_of event None = false
is_event_of event (Some other) = is_same_text event other

-- the event of which all of these are, if they are some
abbrev pub common_event : List (Option (List ℕ)) → Option (List ℕ)
common_event [] = None
common_event (first ∷ rest) = option_and_then (λ event. cond (list_all (is_event_of event) rest) (Some event) None) first

-- The event that alone leads to a state: a transition to the state has the event as its whole condition, and so has each transition to it in
-- whose condition an event occurs.
abbrev pub lone_event : List (List ℕ) → List Transition → List ℕ → Option (List ℕ)
lone_event events transitions state = common_event (filter_map (said_by events state) transitions)

-- ---- keys

-- the key of an event, if there is one
abbrev pub key_of : List (List ℕ) → Option (List ℕ) → List RateKey
key_of names None = []
key_of names (Some event) = record { event = event; names = names } ∷ []

-- the name of the type in a term of a written set, without its package
abbrev pub type_name : Term → Option (List ℕ)
type_name (NoError spot) = None
type_name (One type) = last type.names
type_name (Product spot) = None

-- the key of an event for the type of a term at a point: the names of the point, and then that of the type
abbrev pub term_keys : List (List ℕ) → Option (List ℕ) → Term → List RateKey
term_keys point event term = option_map_or (λ type. key_of (point ++ type ∷ []) event) (type_name term) []

-- the keys of an event for the types of a written set at a point, if there is a set
abbrev pub set_keys : List (List ℕ) → Option (List ℕ) → Option TypeSet → List RateKey
set_keys point event set = option_map_or (λ written. flat_map (term_keys point event) written.terms) set []

-- the event that alone leads to the state, if one is named
abbrev pub event_to : (List ℕ → Option (List ℕ)) → Option StateRef → Option (List ℕ)
event_to lone state = option_and_then (λ named. lone named.name) state

-- the key of a state
abbrev pub state_key : (List ℕ → Option (List ℕ)) → StateDecl → List RateKey
state_key lone state = key_of (state.name ∷ []) (lone state.name)

-- the key of a flow of this kind: an error source that stands for a state
abbrev pub kind_key : (List ℕ → Option (List ℕ)) → List ℕ → FlowKind → List RateKey
kind_key lone name (Source point set state) = key_of (name ∷ []) (event_to lone state)
kind_key lone name (Sink point set) = []
kind_key lone name (Path from from_set to to_set mapping) = []

-- the key of an error source that stands for a state
abbrev pub source_key : (List ℕ → Option (List ℕ)) → Flow → List RateKey
source_key lone flow = kind_key lone flow.name flow.kind

-- the event for which a source counts: that of its state, or the source itself where it has none; a name that an event has is of that event
abbrev pub source_event : List (List ℕ) → (List ℕ → Option (List ℕ)) → List ℕ → Option StateRef → Option (List ℕ)
source_event events lone name (Some state) = lone state.name
source_event events lone name None = cond (is_among events name) None (Some name)

-- the keys of a flow of this kind by its point and types
abbrev pub kind_type_keys : List (List ℕ) → (List ℕ → Option (List ℕ)) → List ℕ → FlowKind → List RateKey
kind_type_keys events lone name (Source point set state) = set_keys point.names (source_event events lone name state) set
kind_type_keys events lone name (Sink point set) = []
kind_type_keys events lone name (Path from from_set to to_set mapping) = []

-- the keys of an error source by its point and types
abbrev pub source_type_keys : List (List ℕ) → (List ℕ → Option (List ℕ)) → Flow → List RateKey
source_type_keys events lone flow = kind_type_keys events lone flow.name flow.kind

-- the event that alone leads to the state of an outgoing condition, where its brackets are empty
abbrev pub outgoing_event : (List ℕ → Option (List ℕ)) → Outgoing → Option (List ℕ)
outgoing_event lone outgoing = cond (is_some outgoing.condition) None (event_to lone outgoing.source.state)

-- the keys of an outgoing condition by its point and types
abbrev pub outgoing_keys : (List ℕ → Option (List ℕ)) → Outgoing → List RateKey
outgoing_keys lone outgoing = set_keys outgoing.point.names (outgoing_event lone outgoing) outgoing.set

-- the keys by names of this kind, where this event alone leads to each state
abbrev pub keys_by : List (List ℕ) → (List ℕ → Option (List ℕ)) → Option MachineDecl → Effective → List RateKey
keys_by events lone machine effective =
    flat_map (state_key lone) (machine_states machine)
    ++ (flat_map (source_key lone) (flows_of effective)
    ++ (flat_map (source_type_keys events lone) (flows_of effective) ++ flat_map (outgoing_keys lone) (outgoing_of effective)))

-- The further keys of the events of a component, in the order in which they count: the states to which an event alone leads, the error sources
-- that stand for such a state, the points with the types of these sources and of sources that are events, and those of outgoing conditions from
-- such a state.
abbrev pub rate_keys : Option MachineDecl → Effective → List RateKey
rate_keys machine effective =
    keys_by (event_names machine effective) (lone_event (event_names machine effective) (transitions_of machine effective)) machine effective
