-- The composite error states of a component (EMV2: composite error behavior).
use Rattle.std.specs.Prelude.{ℕ, Bool, true, false, ◌&&◌, not, List, [], ◌∷◌, ◌++◌, flat_map, slice_index_or, Option, Some, None, is_none, option_map, option_to_list}
use Rattle.profiles.specs.declared.profile.Profile.{Profile}
use Rattle.profiles.specs.declared.profile.Profile.TheVariants.{First, Second}
use Rattle.profiles.specs.Profiles.{is_first}
use Rattle.aadl_syntax.specs.declared.error_model.Composite.{Composite}
use Rattle.aadl_syntax.specs.declared.error_model.Condition.{Condition}
use Rattle.plain_values.specs.declared.refusal.Code.TheVariants.{Others}
use Rattle.plain_values.specs.declared.refusal.Refusal.{Refusal}
use Rattle.plain_values.specs.Refusal.{refused_so}
use Rattle.component_extension.specs.declared.effective.Effective.{Effective}
use Rattle.component_extension.specs.Items.{Scoped}
use Rattle.error_libraries.specs.declared.scope.Scope.{Scope}
use Rattle.error_libraries.specs.Libraries.{Table}
use Rattle.propagation_points.specs.Points.{Point, scopes_of}
use Rattle.propagation_points.specs.Settings.{Setting, clause_setting, held_in, state_refusals_in}
use Rattle.propagation_points.specs.States.{Sort, held_numbers, place_of_sort}
use Rattle.error_conditions.specs.declared.cause.Cause.{Cause}
use Rattle.error_conditions.specs.declared.cause.Cause.TheVariants.{All}
use Rattle.error_conditions.specs.Conditions.{condition_refusals, pair_of}
use Rattle.error_machines.specs.declared.states.States.{States}
use Rattle.composite_states.specs.declared.meaning.ClauseMeaning.{ClauseMeaning}
use Rattle.composite_states.specs.Below.{StatesAt, composite_refusals, composite_meaning}

-- ---- meaning

-- where a condition may fail, if there is one
abbrev pub fails_at : StatesAt → Setting → Table → Option Condition → List Cause
fails_at states_at setting table None = []
fails_at states_at setting table (Some condition) = (pair_of (composite_meaning states_at setting table) condition).fails ∷ []

-- where the conditions of clauses may fail, in order
abbrev pub fails_in : StatesAt → Table → List Point → List Sort → List Scope → List (Scoped Composite) → List Cause
fails_in states_at table points states scopes composites =
    flat_map (λ scoped. fails_at states_at (clause_setting points states scopes scoped.scope) table scoped.item.condition) composites

-- When `others` holds, where the conditions of the clauses may fail so: by the first profile no meaning is given to it, and by the
-- second it may hold where all of them may fail.
abbrev pub others_cause : Profile → List Cause → Option Cause
others_cause First fails = None
others_cause Second fails = Some (All fails)

-- when a clause may hold, by its condition or else by `others`
abbrev pub condition_of : StatesAt → Setting → Table → List Cause → Option Condition → Option Cause
condition_of states_at setting table fails None = others_cause table.profile fails
condition_of states_at setting table fails (Some condition) = Some (pair_of (composite_meaning states_at setting table) condition).holds

-- The meaning of a clause, among clauses whose conditions may fail so: the component is in its target where it may hold.
abbrev pub clause_of : StatesAt → Setting → Table → List Cause → Composite → List ClauseMeaning
clause_of states_at setting table fails composite =
    option_to_list (option_map (λ held. record { targets = held_numbers held; condition = condition_of states_at setting table fails composite.condition }) (held_in table setting composite.target))

-- the meanings of clauses, in order, among clauses whose conditions may fail so
abbrev pub clauses_among : StatesAt → Table → List Point → List Sort → List Scope → List Cause → List (Scoped Composite) → List ClauseMeaning
clauses_among states_at table points states scopes fails composites =
    flat_map (λ scoped. clause_of states_at (clause_setting points states scopes scoped.scope) table fails scoped.item) composites

-- the meanings of clauses, in order
abbrev pub clauses_in : StatesAt → Table → List Point → List Sort → List Scope → List (Scoped Composite) → List ClauseMeaning
clauses_in states_at table points states scopes composites =
    clauses_among states_at table points states scopes (fails_in states_at table points states scopes composites) composites

-- The composite clauses of a component with these points and states, over the states of the components below.
abbrev pub clauses_of : StatesAt → Table → List Point → States → Effective → List ClauseMeaning
clauses_of states_at table points states effective =
    clauses_in states_at table points states.sorts (scopes_of table.packages effective.clauses) effective.behavior.composites

-- ---- refusals

-- the refusals of a condition, if there is one
abbrev pub perhaps_refusals : StatesAt → Setting → Table → Option Condition → List Refusal
perhaps_refusals states_at setting table None = []
perhaps_refusals states_at setting table (Some condition) = condition_refusals table.profile (composite_refusals states_at setting table) condition

-- whether this is a state that is not initial
abbrev pub is_not_initial : List Bool → Option ℕ → Bool
is_not_initial initial None = false
is_not_initial initial (Some number) = not (slice_index_or initial number true)

-- by the first profile P7 at a clause of `others` to a state that is not initial
abbrev pub others_refusals : Profile → List Sort → List Bool → Composite → List Refusal
others_refusals profile states initial composite =
    refused_so (is_first profile && (is_none composite.condition && is_not_initial initial (place_of_sort states composite.target.name))) Others composite.spot

-- The refusals of a clause: those of its condition, N11 and N10 of its target, and by the first profile P7.
abbrev pub clause_refusals : StatesAt → Setting → Table → List Bool → Composite → List Refusal
clause_refusals states_at setting table initial composite =
    perhaps_refusals states_at setting table composite.condition
    ++ (state_refusals_in table setting composite.target ++ others_refusals table.profile setting.states initial composite)

-- the refusals of clauses
abbrev pub refusals_in : StatesAt → Table → List Point → States → List Scope → List (Scoped Composite) → List Refusal
refusals_in states_at table points states scopes composites =
    flat_map (λ scoped. clause_refusals states_at (clause_setting points states.sorts scopes scoped.scope) table states.initial scoped.item) composites

-- The refusals of the composite clauses of a component, one group.
abbrev pub composite_clause_refusals : StatesAt → Table → List Point → States → Effective → List Refusal
composite_clause_refusals states_at table points states effective =
    refusals_in states_at table points states (scopes_of table.packages effective.clauses) effective.behavior.composites
