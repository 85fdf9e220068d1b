-- The written sets that a component uses, and what is refused of them (EMV2: `use types`, type sets).
use Rattle.std.specs.Prelude.{ℕ, Bool, true, false, cond, ◌&&◌, ◌||◌, nat_eq, List, [], ◌∷◌, ◌++◌, flat_map, slice_get, Option, Some, None, option_to_list}
use Rattle.std.specs.List.{list_any}
use Rattle.aadl_syntax.specs.declared.error_model.MachineDecl.{MachineDecl}
use Rattle.aadl_syntax.specs.declared.error_model.TypeSet.{TypeSet}
use Rattle.plain_values.specs.declared.refusal.Refusal.{Refusal}
use Rattle.plain_values.specs.Numbered.{numbered_from}
use Rattle.component_extension.specs.declared.effective.Effective.{Effective}
use Rattle.component_extension.specs.declared.error_model.Behavior.{Behavior}
use Rattle.component_extension.specs.declared.error_model.Propagations.{Propagations}
use Rattle.component_extension.specs.Items.{Clause, Scoped}
use Rattle.error_libraries.specs.declared.scope.Scope.{Scope}
use Rattle.error_libraries.specs.Libraries.{Table, unknown_libraries}
use Rattle.error_types.specs.Types.{text_scope}
use Rattle.error_types.specs.Walk.{set_first}
use Rattle.propagation_points.specs.Points.{scopes_of}
use Rattle.error_machines.specs.Machines.{Machine}
use Rattle.used_sets.specs.Sets.{composite_sets, event_sets, flow_sets, outgoing_sets, point_sets, state_decl_sets, transition_sets}

-- ---- the sets of items of clauses

-- the first refusal of a set that is read in a text, if there is the text
abbrev pub set_fault : Table → Option Scope → TypeSet → List Refusal
set_fault table None set = []
set_fault table (Some scope) set = option_to_list (set_first table scope set)

-- the first refusals of the sets of an item, which are read in the text of its clause
abbrev pub item_refusals : {Item : Type 0} → (Item → List TypeSet) → Table → List Scope → Scoped Item → List Refusal
item_refusals sets table scopes scoped = flat_map (set_fault table (slice_get scopes scoped.scope)) (sets scoped.item)

-- the first refusals of the sets of items
abbrev pub items_refusals : {Item : Type 0} → (Item → List TypeSet) → Table → List Scope → List (Scoped Item) → List Refusal
items_refusals sets table scopes items = flat_map (item_refusals sets table scopes) items

-- whether there is a set
abbrev pub is_some_set : List TypeSet → Bool
is_some_set [] = false
is_some_set (set ∷ sets) = true

-- whether an item stands in the clause of a number and has a set
abbrev pub uses_clause : {Item : Type 0} → (Item → List TypeSet) → ℕ → Scoped Item → Bool
uses_clause sets number scoped = nat_eq scoped.scope number && is_some_set (sets scoped.item)

-- whether one of these items does
abbrev pub use_clause : {Item : Type 0} → (Item → List TypeSet) → List (Scoped Item) → ℕ → Bool
use_clause sets items number = list_any (uses_clause sets number) items

-- ---- the sets of a component

-- those of its points and flows
abbrev pub propagation_refusals : Table → List Scope → Propagations → List Refusal
propagation_refusals table scopes propagations = items_refusals point_sets table scopes propagations.points ++ items_refusals flow_sets table scopes propagations.flows

-- those of its events, transitions, outgoing conditions and composite states
abbrev pub behavior_refusals : Table → List Scope → Behavior → List Refusal
behavior_refusals table scopes behavior =
    items_refusals event_sets table scopes behavior.events
    ++ (items_refusals transition_sets table scopes behavior.transitions
    ++ (items_refusals outgoing_sets table scopes behavior.outgoing ++ items_refusals composite_sets table scopes behavior.composites))

-- The first refusals of the written sets of the effective items of a component, where its clauses have these texts.
abbrev pub effective_refusals : Table → List Scope → Effective → List Refusal
effective_refusals table scopes effective = propagation_refusals table scopes effective.propagations ++ behavior_refusals table scopes effective.behavior

-- whether a point or a flow of the clause of a number has a written set
abbrev pub propagation_uses : Propagations → ℕ → Bool
propagation_uses propagations number = use_clause point_sets propagations.points number || use_clause flow_sets propagations.flows number

-- whether an event, a transition, an outgoing condition or a composite state of the clause of a number has one
abbrev pub behavior_uses : Behavior → ℕ → Bool
behavior_uses behavior number =
    ((use_clause event_sets behavior.events number || use_clause transition_sets behavior.transitions number) || use_clause outgoing_sets behavior.outgoing number)
    || use_clause composite_sets behavior.composites number

-- Whether an effective item of the clause of a number has a written set.
abbrev pub is_used : Effective → ℕ → Bool
is_used effective number = propagation_uses effective.propagations number || behavior_uses effective.behavior number

-- N2 at each name of a library that a clause uses and that means none, where this test says that the clause is used
abbrev pub uses_fault : Table → (ℕ → Bool) → ℕ → Clause → List Refusal
uses_fault table is_used number clause = cond (is_used number) (unknown_libraries table.packages clause.«package» clause.item.uses) []

-- the refusals of the sets of the effective items of a component, where its clauses have these texts, and of the libraries that
-- these clauses use
abbrev pub refusals_with : Table → List Scope → Effective → List Refusal
refusals_with table scopes effective = effective_refusals table scopes effective ++ numbered_from (uses_fault table (is_used effective)) 0 effective.clauses

-- the same with the texts that the clauses have
abbrev pub clause_set_refusals : Table → Effective → List Refusal
clause_set_refusals table effective = refusals_with table (scopes_of table.packages effective.clauses) effective

-- ---- the sets of a machine

-- The written sets of a machine.
abbrev pub machine_sets : MachineDecl → List TypeSet
machine_sets decl = flat_map event_sets decl.events ++ (flat_map state_decl_sets decl.states ++ flat_map transition_sets decl.transitions)

-- the refusals of a machine with these sets: if there are any, N2 of the libraries that it uses, and theirs
abbrev pub sets_refusals : Table → Machine → List TypeSet → List Refusal
sets_refusals table machine sets =
    cond (is_some_set sets) (unknown_libraries table.packages machine.«package» machine.item.uses) []
    ++ flat_map (set_fault table (Some (text_scope table.packages machine.«package» machine.item.uses))) sets

-- the refusals of the sets of a machine, if there is one
abbrev pub machine_set_refusals : Table → Option Machine → List Refusal
machine_set_refusals table None = []
machine_set_refusals table (Some machine) = sets_refusals table machine (machine_sets machine.item)

-- The refusals of the written sets that a component uses, one group: N2, N7, N8 and P4 of the names in the sets of its effective
-- items and of its machine, and N2 of the libraries that their texts use.
abbrev pub used_set_refusals : Table → Option Machine → Effective → List Refusal
used_set_refusals table machine effective = clause_set_refusals table effective ++ machine_set_refusals table machine
