-- The error behavior of a component: what its machine and its clauses say.
use Rattle.std.specs.Prelude.{ℕ, List, [], ◌++◌, flat_map, slice_get, Option, Some, None, option_map}
use Rattle.aadl_syntax.specs.declared.error_model.EventDecl.{EventDecl}
use Rattle.aadl_syntax.specs.declared.error_model.MachineDecl.{MachineDecl}
use Rattle.aadl_syntax.specs.declared.error_model.Outgoing.{Outgoing}
use Rattle.aadl_syntax.specs.declared.error_model.Transition.{Transition}
use Rattle.profiles.specs.declared.profile.Profile.{Profile}
use Rattle.plain_values.specs.declared.refusal.Code.TheVariants.{MachineExtends, Mapping}
use Rattle.plain_values.specs.declared.refusal.Refusal.{Refusal}
use Rattle.component_extension.specs.declared.effective.Effective.{Effective}
use Rattle.component_extension.specs.Items.{Scoped}
use Rattle.plain_values.specs.Refusal.{refused_there}
use Rattle.error_libraries.specs.Libraries.{Table}
use Rattle.propagation_points.specs.Points.{Point, scopes_of}
use Rattle.error_behavior.specs.declared.behavior.ErrorBehavior.{ErrorBehavior}
use Rattle.error_behavior.specs.declared.behavior.Texts.{Texts}
use Rattle.error_behavior.specs.declared.steps.Emission.{Emission}
use Rattle.error_behavior.specs.declared.steps.Step.{Step}
use Rattle.error_machines.specs.Machines.{Machine}
use Rattle.error_machines.specs.States.{event_refusals, events_of, machine_scope, states_of}
use Rattle.error_behavior.specs.Steps.{emission_of, outgoing_refusals, step_of, transition_refusals}
use Rattle.error_behavior.specs.Triggers.{TriggerPlace, Vocabulary, place_in}

-- ---- texts

-- The texts of a component: that of its machine, if it uses one, and those of its clauses.
abbrev pub texts_of : Table → Option Machine → Effective → Texts
texts_of table machine effective = record {
  machine = option_map (machine_scope table) machine;
  clauses = scopes_of table.packages effective.clauses;
}

-- what the triggers of a component with these points may name
abbrev pub vocabulary_of : Table → List Point → Option Machine → Effective → Vocabulary
vocabulary_of table points machine effective = record { points = points; states = (states_of table machine).sorts; events = events_of table machine effective }

-- the place of the triggers of a machine
abbrev pub machine_place : Vocabulary → Texts → TriggerPlace
machine_place words texts = place_in words texts.machine

-- the place of the triggers of a clause of a number
abbrev pub clause_place : Vocabulary → Texts → ℕ → TriggerPlace
clause_place words texts number = place_in words (slice_get texts.clauses number)

-- ---- steps and emissions

-- the steps of a machine
abbrev pub machine_steps : Table → Vocabulary → Texts → Option Machine → List Step
machine_steps table words texts None = []
machine_steps table words texts (Some machine) = flat_map (step_of (machine_place words texts) table) machine.item.transitions

-- the steps of transitions of clauses
abbrev pub clause_steps : Table → Vocabulary → Texts → List (Scoped Transition) → List Step
clause_steps table words texts transitions = flat_map (λ scoped. step_of (clause_place words texts scoped.scope) table scoped.item) transitions

-- the emissions of outgoing conditions of clauses
abbrev pub clause_emissions : Table → Vocabulary → Texts → List (Scoped Outgoing) → List Emission
clause_emissions table words texts outgoing = flat_map (λ scoped. emission_of (clause_place words texts scoped.scope) table scoped.item) outgoing

-- the behavior with these words and texts
abbrev pub behavior_with : Table → Vocabulary → Texts → Option Machine → Effective → ErrorBehavior
behavior_with table words texts machine effective = record {
  events = words.events.sorts;
  steps = machine_steps table words texts machine ++ clause_steps table words texts effective.behavior.transitions;
  emissions = clause_emissions table words texts effective.behavior.outgoing;
}

-- The error behavior of a component that uses this machine, if it uses one: its events, its steps, those of the machine first,
-- and its emissions.
abbrev pub behavior_of : Table → List Point → Option Machine → Effective → ErrorBehavior
behavior_of table points machine effective = behavior_with table (vocabulary_of table points machine effective) (texts_of table machine effective) machine effective

-- ---- refusals

-- the refusals of a declared machine but for its transitions: P12 where it extends another, P11 where it uses transformations,
-- and those of its events
abbrev pub decl_refusals : Profile → MachineDecl → List Refusal
decl_refusals profile decl =
    refused_there MachineExtends decl.extends ++ (refused_there Mapping decl.transforms ++ flat_map (event_refusals profile) decl.events)

-- the refusals of a machine, if there is one: those of its declaration and of its transitions
abbrev pub machine_refusals : Table → Vocabulary → Texts → Option Machine → List Refusal
machine_refusals table words texts None = []
machine_refusals table words texts (Some machine) = decl_refusals table.profile machine.item ++ flat_map (transition_refusals (machine_place words texts) table) machine.item.transitions

-- the refusals of events of clauses
abbrev pub clause_event_refusals : Profile → List (Scoped EventDecl) → List Refusal
clause_event_refusals profile events = flat_map (λ scoped. event_refusals profile scoped.item) events

-- the refusals of transitions of clauses
abbrev pub clause_transition_refusals : Table → Vocabulary → Texts → List (Scoped Transition) → List Refusal
clause_transition_refusals table words texts transitions = flat_map (λ scoped. transition_refusals (clause_place words texts scoped.scope) table scoped.item) transitions

-- the refusals of outgoing conditions of clauses
abbrev pub clause_outgoing_refusals : Table → Vocabulary → Texts → List (Scoped Outgoing) → List Refusal
clause_outgoing_refusals table words texts outgoing = flat_map (λ scoped. outgoing_refusals (clause_place words texts scoped.scope) table scoped.item) outgoing

-- the refusals with these words and texts, but for those of outgoing conditions
abbrev pub step_refusals : Table → Vocabulary → Texts → Option Machine → Effective → List Refusal
step_refusals table words texts machine effective =
    machine_refusals table words texts machine ++ (clause_event_refusals table.profile effective.behavior.events ++ clause_transition_refusals table words texts effective.behavior.transitions)

-- the refusals with these words and texts
abbrev pub refusals_with : Table → Vocabulary → Texts → Option Machine → Effective → List Refusal
refusals_with table words texts machine effective =
    step_refusals table words texts machine effective ++ clause_outgoing_refusals table words texts effective.behavior.outgoing

-- The refusals of the error behavior of a component, one group: those of its machine, and of the events, transitions and
-- outgoing conditions of its clauses.
abbrev pub behavior_refusals : Table → List Point → Option Machine → Effective → List Refusal
behavior_refusals table points machine effective = refusals_with table (vocabulary_of table points machine effective) (texts_of table machine effective) machine effective
