-- The error flows of a component: what each means, and what is refused (EMV2: error sources, sinks and paths).
use Rattle.std.specs.Prelude.{ℕ, true, false, List, [], ◌++◌, flat_map, Option, Some, None, option_map, option_and_then, option_to_list}
use Rattle.aadl_syntax.specs.declared.error_model.Flow.{Flow}
use Rattle.aadl_syntax.specs.declared.error_model.FlowKind.{FlowKind}
use Rattle.aadl_syntax.specs.declared.error_model.FlowKind.TheVariants.{Source, Sink, Path}
use Rattle.aadl_syntax.specs.declared.error_model.StateRef.{StateRef}
use Rattle.plain_values.specs.declared.refusal.Code.TheVariants.{Mapping}
use Rattle.plain_values.specs.declared.refusal.Refusal.{Refusal}
use Rattle.component_extension.specs.declared.effective.Effective.{Effective}
use Rattle.component_extension.specs.Items.{Scoped}
use Rattle.plain_values.specs.Refusal.{refused_so, refused_there}
use Rattle.error_libraries.specs.declared.scope.Scope.{Scope}
use Rattle.error_libraries.specs.Libraries.{Table}
use Rattle.propagation_points.specs.declared.side.Reach.{Reach}
use Rattle.propagation_points.specs.declared.side.Reach.TheVariants.{Whole, Only}
use Rattle.propagation_points.specs.declared.uses.ReachedPoint.{ReachedPoint}
use Rattle.propagation_points.specs.Points.{Point, scopes_of}
use Rattle.propagation_points.specs.Settings.{Setting, clause_setting, refusals_in, held_in, reached_in, state_refusals_in}
use Rattle.propagation_points.specs.States.{Sort}
use Rattle.propagation_points.specs.Uses.{point_use}
use Rattle.error_flows.specs.declared.meaning.FlowMeaning.{FlowMeaning}
use Rattle.error_flows.specs.declared.meaning.FlowMeaning.TheVariants.{Event, State, Carry, Change}

-- ---- meaning

-- A source of this name is an event of its own, or where it names a state that state is what comes out.
abbrev pub source_meaning : Table → Setting → List ℕ → Option StateRef → ReachedPoint → Option FlowMeaning
source_meaning table setting name None reached = Some (Event name reached)
source_meaning table setting name (Some state) reached = option_map (λ held. State held reached) (held_in table setting state)

-- A path without a set at its end carries each type to its end, and one with a set makes the types of the set of what it takes.
abbrev pub path_meaning : ReachedPoint → ℕ → Reach → FlowMeaning
path_meaning from to Whole = Carry from to
path_meaning from to (Only types) = Change from to types

-- The meaning of a flow in a setting; a sink has none.
abbrev pub flow_meaning : Table → Setting → List ℕ → FlowKind → Option FlowMeaning
flow_meaning table setting name (Source point set state) = option_and_then (source_meaning table setting name state) (reached_in table setting (point_use point true set))
flow_meaning table setting name (Sink point set) = None
flow_meaning table setting name (Path from from_set to to_set mapping) =
    option_and_then (λ start. option_map (λ end. path_meaning start end.point end.types) (reached_in table setting (point_use to true to_set))) (reached_in table setting (point_use from false from_set))

-- what a flow takes in a setting where it is a sink
abbrev pub taken_by : Table → Setting → FlowKind → Option ReachedPoint
taken_by table setting (Source point set state) = None
taken_by table setting (Sink point set) = reached_in table setting (point_use point false set)
taken_by table setting (Path from from_set to to_set mapping) = None

-- ---- refusals

-- N11 and N10 at the state of a source, if it names one
abbrev pub when_refusals : Table → Setting → Option StateRef → List Refusal
when_refusals table setting None = []
when_refusals table setting (Some state) = state_refusals_in table setting state

-- The refusals of a flow in a setting: N9 and N10 of its points and sets, N11 and N10 of the state of a source, and P11 at the
-- mappings that a path uses.
abbrev pub flow_refusals : Table → Setting → FlowKind → List Refusal
flow_refusals table setting (Source point set state) = refusals_in table setting (point_use point true set) ++ when_refusals table setting state
flow_refusals table setting (Sink point set) = refusals_in table setting (point_use point false set)
flow_refusals table setting (Path from from_set to to_set mapping) =
    refusals_in table setting (point_use from false from_set) ++ (refusals_in table setting (point_use to true to_set) ++ refused_there Mapping mapping)

-- ---- the flows of a component

-- The meanings of flows, in order.
abbrev pub meanings : Table → List Point → List Sort → List Scope → List (Scoped Flow) → List FlowMeaning
meanings table points states scopes flows =
    flat_map (λ flow. option_to_list (flow_meaning table (clause_setting points states scopes flow.scope) flow.item.name flow.item.kind)) flows

-- What the sinks among flows take, in order.
abbrev pub taken : Table → List Point → List Sort → List Scope → List (Scoped Flow) → List ReachedPoint
taken table points states scopes flows = flat_map (λ flow. option_to_list (taken_by table (clause_setting points states scopes flow.scope) flow.item.kind)) flows

-- The refusals of flows.
abbrev pub refusals_of_flows : Table → List Point → List Sort → List Scope → List (Scoped Flow) → List Refusal
refusals_of_flows table points states scopes flows = flat_map (λ flow. flow_refusals table (clause_setting points states scopes flow.scope) flow.item.kind) flows

-- The flows of a component with these points and states, sinks left out.
abbrev pub flows_of : Table → List Point → List Sort → Effective → List FlowMeaning
flows_of table points states effective = meanings table points states (scopes_of table.packages effective.clauses) effective.propagations.flows

-- What the sinks of a component with these points and states take.
abbrev pub sinks_of : Table → List Point → List Sort → Effective → List ReachedPoint
sinks_of table points states effective = taken table points states (scopes_of table.packages effective.clauses) effective.propagations.flows

-- The refusals of the flows of a component: those of each flow, and P11 at each use of mappings by a clause.
abbrev pub all_flow_refusals : Table → List Point → List Sort → Effective → List Refusal
all_flow_refusals table points states effective =
    refusals_of_flows table points states (scopes_of table.packages effective.clauses) effective.propagations.flows ++ flat_map (refused_so true Mapping) effective.others.mappings
