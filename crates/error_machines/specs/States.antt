-- The states and the events of a component (EMV2: error behavior states and events).
use Rattle.std.specs.Prelude.{ℕ, Bool, true, false, ◌&&◌, not, List, [], ◌∷◌, ◌++◌, cond, fold, map, slice_get, Option, Some, None}
use Rattle.profiles.specs.declared.profile.Profile.{Profile}
use Rattle.profiles.specs.Profiles.{is_first}
use Rattle.aadl_syntax.specs.declared.error_model.EventDecl.{EventDecl}
use Rattle.aadl_syntax.specs.declared.error_model.EventKind.{EventKind}
use Rattle.aadl_syntax.specs.declared.error_model.EventKind.TheVariants.{Error, Recover, Repair}
use Rattle.aadl_syntax.specs.declared.error_model.StateDecl.{StateDecl}
use Rattle.plain_values.specs.declared.refusal.Code.TheVariants.{Recovery}
use Rattle.plain_values.specs.declared.refusal.Refusal.{Refusal}
use Rattle.plain_values.specs.Refusal.{refused_so}
use Rattle.component_extension.specs.declared.effective.Effective.{Effective}
use Rattle.component_extension.specs.Items.{Scoped}
use Rattle.error_libraries.specs.declared.scope.Scope.{Scope}
use Rattle.error_libraries.specs.Libraries.{Table}
use Rattle.error_types.specs.Types.{text_scope}
use Rattle.propagation_points.specs.Points.{scopes_of}
use Rattle.propagation_points.specs.States.{Sort, declared_by, keep_sort, place_of_sort, variant_types}
use Rattle.error_machines.specs.declared.states.Events.{Events}
use Rattle.error_machines.specs.declared.states.States.{States}
use Rattle.error_machines.specs.Machines.{Machine}

-- ---- states

-- the states with one more at the end, with these types, unless one has its name and this place
abbrev pub keep_at : Option ℕ → States → StateDecl → Option (List ℕ) → States
keep_at (Some place) states state types = states
keep_at None states state types = record {
  sorts = keep_sort states.sorts state.name types;
  initial = states.initial ++ state.initial ∷ [];
  always = states.always ++ map (λ type. state.initial) (variant_types types);
}

-- The states with one more at the end. Of two states of one name the first counts.
abbrev pub keep_state : Table → Option Scope → States → StateDecl → States
keep_state table scope states state = keep_at (place_of_sort states.sorts state.name) states state (declared_by table scope state.set)

-- no states
abbrev pub no_states : States
no_states = record { sorts = []; initial = []; always = [] }

-- the states of declarations that are read in a text, in order, each name once
abbrev pub states_in : Table → Option Scope → List StateDecl → States
states_in table scope decls = fold (keep_state table scope) no_states decls

-- the text of a machine
abbrev pub machine_scope : Table → Machine → Scope
machine_scope table machine = text_scope table.packages machine.«package» machine.item.uses

-- The states of a component: those of the machine that it uses.
abbrev pub states_of : Table → Option Machine → States
states_of table None = no_states
states_of table (Some machine) = states_in table (Some (machine_scope table machine)) machine.item.states

-- ---- events

-- An event as it is declared, and the text in which its set is read.
pub record EventAt : Type 0 where
  pub scope : Option Scope
  pub decl : EventDecl

-- an event that is read in this text
abbrev pub event_at : Option Scope → EventDecl → EventAt
event_at scope decl = record { scope = scope; decl = decl }

-- the events that a machine declares
abbrev pub machine_events : Table → Option Machine → List EventAt
machine_events table None = []
machine_events table (Some machine) = map (event_at (Some (machine_scope table machine))) machine.item.events

-- an event of a clause, where the clauses have these texts
abbrev pub clause_event : List Scope → Scoped EventDecl → EventAt
clause_event scopes scoped = event_at (slice_get scopes scoped.scope) scoped.item

-- the events that clauses declare
abbrev pub clause_events : Table → Effective → List EventAt
clause_events table effective = map (clause_event (scopes_of table.packages effective.clauses)) effective.behavior.events

-- whether an event takes a component back to an earlier state
abbrev pub is_recovery : EventKind → Bool
is_recovery Error = false
is_recovery Recover = true
is_recovery Repair = true

-- Whether an event may happen at any time and costs nothing, so that it is no basic event: by the second profile a recover or a
-- repair event.
abbrev pub is_free : Profile → EventKind → Bool
is_free profile kind = not (is_first profile) && is_recovery kind

-- the types that are declared with an event; what is free has no variant
abbrev pub event_types : Table → EventAt → Option (List ℕ)
event_types table event = cond (is_free table.profile event.decl.kind) (Some []) (declared_by table event.scope event.decl.set)

-- no events
abbrev pub no_events : Events
no_events = record { sorts = []; free = [] }

-- the events with one more at the end, of this name and with these types, unless one has its name and this place
abbrev pub keep_event_at : Option ℕ → Events → List ℕ → Option (List ℕ) → Bool → Events
keep_event_at (Some place) events name types free = events
keep_event_at None events name types free = record { sorts = keep_sort events.sorts name types; free = events.free ++ free ∷ [] }

-- The events with one more at the end. Of two events of one name the first counts, whatever its kind.
abbrev pub keep_event : Table → Events → EventAt → Events
keep_event table events event =
    keep_event_at (place_of_sort events.sorts event.decl.name) events event.decl.name (event_types table event) (is_free table.profile event.decl.kind)

-- The events of a component, in order: those of its machine, then those of its clauses; and which of them are free.
abbrev pub events_of : Table → Option Machine → Effective → Events
events_of table machine effective = fold (keep_event table) no_events (machine_events table machine ++ clause_events table effective)

-- the refusal of an event: by the first profile P8 where it is a recover or a repair event
abbrev pub event_refusals : Profile → EventDecl → List Refusal
event_refusals profile event = refused_so (is_first profile && is_recovery event.kind) Recovery event.spot
