-- The declarations of a component by which places are found: those from which its events come (EMV2: error events, error sources, inward propagations),
-- outward propagations, states, features and propagation points of the user's.
use Rattle.std.specs.Prelude.{ℕ, ◌||◌, ◌&&◌, not, cond, List, [], ◌∷◌, ◌++◌, flat_map, map, Option, None, Some}
use Rattle.plain_values.specs.declared.spot.Spot.{Spot}
use Rattle.aadl_syntax.specs.declared.core_model.PackageUnit.{PackageUnit}
use Rattle.aadl_syntax.specs.declared.core_model.Feature.{Feature}
use Rattle.aadl_syntax.specs.declared.error_model.EventDecl.{EventDecl}
use Rattle.aadl_syntax.specs.declared.error_model.Flow.{Flow}
use Rattle.aadl_syntax.specs.declared.error_model.PointItem.{PointItem}
use Rattle.aadl_syntax.specs.declared.error_model.StateDecl.{StateDecl}
use Rattle.aadl_syntax.specs.declared.error_model.UserPoint.{UserPoint}
use Rattle.package_index.specs.Names.{only}
use Rattle.package_index.specs.declared.id.ClassifierId.{ClassifierId}
use Rattle.component_extension.specs.Members.{Member}
use Rattle.component_extension.specs.declared.effective.Effective.{Effective}
use Rattle.error_machines.specs.Machines.{Machine}
use Rattle.error_models.specs.Below.{machine_of}
use Rattle.instantiator.specs.Effectives.{effective_of}
use Rattle.event_origins.specs.Named.{Declaration}
use Rattle.event_origins.specs.declared.kinds.Declarations.{Declarations}

-- ---- error events

-- the declaration of an error event
abbrev pub event_declaration : EventDecl → Declaration
event_declaration event = record { name = event.name; spot = event.spot }

-- the error events that a machine declares
abbrev pub machine_events : Option Machine → List EventDecl
machine_events None = []
machine_events (Some machine) = machine.item.events

-- ---- sources

-- the declaration of a flow
abbrev pub flow_declaration : Flow → Declaration
flow_declaration flow = record { name = flow.name; spot = flow.spot }

-- ---- what arrives

-- the declaration of a point of one name
abbrev pub named_one : Option (List ℕ) → Spot → List Declaration
named_one None spot = []
named_one (Some name) spot = record { name = name; spot = spot } ∷ []

abbrev pub named_at : List (List ℕ) → Spot → List Declaration
named_at names spot = named_one (only names) spot

-- the declaration of the inward side of a point: a propagation that is not outward, and has no `not`
abbrev pub inward_declaration : PointItem → List Declaration
inward_declaration item = cond (item.outward || item.negative) [] (named_at item.point.names item.point.spot)

-- ---- outward sides, states, features and points

-- the declaration of the outward side of a point: a propagation that is outward, and has no `not`
abbrev pub outward_declaration : PointItem → List Declaration
outward_declaration item = cond (item.outward && not item.negative) (named_at item.point.names item.point.spot) []

-- the declaration of a state
abbrev pub state_declaration : StateDecl → Declaration
state_declaration state = record { name = state.name; spot = state.spot }

-- the states that a machine declares
abbrev pub machine_states : Option Machine → List StateDecl
machine_states None = []
machine_states (Some machine) = machine.item.states

-- the nearest declaration of a feature
abbrev pub feature_declaration : Member Feature → Declaration
feature_declaration member = record { name = member.nearest.item.name; spot = member.nearest.item.spot }

-- the declaration of a propagation point of the user's
abbrev pub user_point_declaration : UserPoint → Declaration
user_point_declaration point = record { name = point.name; spot = point.spot }

-- ---- a component

-- The declarations of a component with this machine: its error events, those of its machine first; its flows; the inward sides of
-- its points, and the outward ones; the states of its machine; and its features and propagation points of its own.
abbrev pub declarations_in : Option Machine → Effective → Declarations
declarations_in machine effective = record {
  events = map event_declaration (machine_events machine) ++ map (λ scoped. event_declaration scoped.item) effective.behavior.events;
  flows = map (λ scoped. flow_declaration scoped.item) effective.propagations.flows;
  inward = flat_map (λ scoped. inward_declaration scoped.item) effective.propagations.points;
  outward = flat_map (λ scoped. outward_declaration scoped.item) effective.propagations.points;
  states = map state_declaration (machine_states machine);
  features = map feature_declaration effective.members.features ++ map (λ scoped. user_point_declaration scoped.item) effective.propagations.user_points;
}

-- the declarations of a component of this classifier
abbrev pub declarations_of : List PackageUnit → ClassifierId → Declarations
declarations_of packages id = declarations_in (machine_of packages (effective_of packages id)) (effective_of packages id)
