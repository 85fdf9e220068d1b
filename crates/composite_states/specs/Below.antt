-- What the named parts of a composite state mean (EMV2: composite error behavior).
use Rattle.std.specs.Prelude.{ℕ, true, cond, not, List, [], ◌∷◌, ◌++◌, filter, length, map, Option, Some, None, is_none, option_and_then}
use Rattle.plain_values.specs.Numbered.{numbers_below}
use Rattle.aadl_syntax.specs.declared.error_model.Atom.{Atom}
use Rattle.plain_values.specs.declared.spot.Spot.{Spot}
use Rattle.plain_values.specs.declared.refusal.Code.TheVariants.{UnknownState, UnknownSubcomponent}
use Rattle.plain_values.specs.declared.refusal.Refusal.{Refusal}
use Rattle.plain_values.specs.Refusal.{refused_so}
use Rattle.package_index.specs.Names.{front, last}
use Rattle.error_libraries.specs.Libraries.{Table}
use Rattle.error_libraries.specs.Search.{is_number_in}
use Rattle.propagation_points.specs.Settings.{Setting, refusals_in}
use Rattle.propagation_points.specs.declared.held.Held.{Held}
use Rattle.propagation_points.specs.States.{Sort, all_variants, held_by, held_numbers, sort_refusals, sort_named}
use Rattle.propagation_points.specs.Uses.{atom_use}
use Rattle.error_conditions.specs.declared.cause.Cause.{Cause}
use Rattle.error_conditions.specs.declared.cause.Cause.TheVariants.{Any, State}
use Rattle.error_conditions.specs.Conditions.{Pair, always, held_cause, may_fail, no_error_refusals, pair, point_meaning, says_no_error}

-- The states of the component to which names of subcomponents lead, if they lead to one.
abbrev pub StatesAt : Type 0
StatesAt = List (List ℕ) → Option (List Sort)

-- ---- states below

-- the states of the component below to which these names lead; without a name they lead to none
abbrev pub below_at : StatesAt → List (List ℕ) → Option (List Sort)
below_at states_at [] = None
below_at states_at (name ∷ names) = states_at (name ∷ names)

-- the number of the state that the last of the names names, among these states, if there are any
abbrev pub state_in : List (List ℕ) → Option (List Sort) → Option Sort
state_in names states = option_and_then (λ states. option_and_then (sort_named states) (last names)) states

-- the state that names mean, the last of them in the component to which the names before it lead
abbrev pub state_at : StatesAt → List (List ℕ) → Option Sort
state_at states_at names = state_in names (below_at states_at (front names))

-- that the component below to which names lead is in the variant of a number
abbrev pub variant_cause : List (List ℕ) → ℕ → Cause
variant_cause path number = State (record { path = path; state = number })

-- those of these variants that are not selected
abbrev pub others_in : List ℕ → List ℕ → List ℕ
others_in held numbers = filter (λ number. not (is_number_in held number)) numbers

-- The component below to which names lead, whose states have so many variants, is in what is selected; and else in another of
-- them. It is always in one of its states.
abbrev pub state_pair : List (List ℕ) → ℕ → Held → Pair
state_pair path count held = pair (held_cause (variant_cause path) held) (Any (map (variant_cause path) (others_in (held_numbers held) (numbers_below count))))

-- how many variants the states of a component have, if there is the component
abbrev pub variant_count : Option (List Sort) → ℕ
variant_count None = 0
variant_count (Some states) = length (all_variants states)

-- what it means that such a component is in what a set selects of this state; without such a state it never is
abbrev pub state_meaning : Table → Setting → Atom → ℕ → Option Sort → Pair
state_meaning table setting atom count None = may_fail (Any [])
state_meaning table setting atom count (Some state) = state_pair (front atom.names) count (held_by table setting.scope state atom.set)

-- the meaning of a named part that names a state of a component below
abbrev pub state_named : StatesAt → Table → Setting → Atom → Pair
state_named states_at table setting atom = state_meaning table setting atom (variant_count (below_at states_at (front atom.names))) (state_at states_at atom.names)

-- N13 where there is no such component below, N11 where it has no such state, both at the first name
abbrev pub unknown_refusals : List (List ℕ) → Spot → Option (List Sort) → List Refusal
unknown_refusals names spot None = refused_so true UnknownSubcomponent spot
unknown_refusals names spot (Some states) = refused_so (is_none (state_in names (Some states))) UnknownState spot

-- the refusals of a named part that names a state of a component below
abbrev pub state_named_refusals : StatesAt → Table → Setting → Atom → List Refusal
state_named_refusals states_at table setting atom =
    unknown_refusals atom.names atom.spot (below_at states_at (front atom.names)) ++ sort_refusals table setting.scope (state_at states_at atom.names) atom.set

-- ---- named parts

-- the meaning of a named part that names a state: that no error is there may always be so, and may always fail
abbrev pub state_or_none : StatesAt → Table → Setting → Atom → Pair
state_or_none states_at table setting atom = cond (says_no_error table setting.scope atom.set) (may_fail always) (state_named states_at table setting atom)

-- What a named part of a composite state means: after `in` a point of the component itself, else a state of a component below.
abbrev pub composite_meaning : StatesAt → Setting → Table → Atom → Pair
composite_meaning states_at setting table atom = cond atom.inward (point_meaning table setting atom) (state_or_none states_at table setting atom)

-- the refusals of a named part but for P6
abbrev pub point_or_state_refusals : StatesAt → Setting → Table → Atom → List Refusal
point_or_state_refusals states_at setting table atom = cond atom.inward (refusals_in table setting (atom_use atom)) (state_named_refusals states_at table setting atom)

-- The refusals of a named part of a composite state: by the first profile P6 at a `noerror` of its set; of a point N9 and N10; of a
-- state N13, N11 and N10.
abbrev pub composite_refusals : StatesAt → Setting → Table → Atom → List Refusal
composite_refusals states_at setting table atom = no_error_refusals table.profile atom.set ++ point_or_state_refusals states_at setting table atom
