-- The states and the events of a component as they are declared, and what refers to them (EMV2: error behavior, type sets).
-- What is declared without a set has one variant, and what is declared with a set has a variant for each type of the set.
use Rattle.std.specs.Prelude.{ℕ, ◌+◌, cond, List, [], ◌∷◌, ◌++◌, flat_map, map, length, slice_get, Option, Some, None, is_none, option_map, option_and_then, position, unwrap_or}
use Rattle.plain_values.specs.Name.{is_same_text}
use Rattle.aadl_syntax.specs.declared.error_model.StateRef.{StateRef}
use Rattle.aadl_syntax.specs.declared.error_model.TypeSet.{TypeSet}
use Rattle.plain_values.specs.declared.refusal.Code.TheVariants.{UnknownState}
use Rattle.plain_values.specs.declared.refusal.Refusal.{Refusal}
use Rattle.plain_values.specs.Refusal.{refused_so}
use Rattle.plain_values.specs.Numbered.{numbered_from}
use Rattle.error_libraries.specs.declared.scope.Scope.{Scope}
use Rattle.error_libraries.specs.Libraries.{Table}
use Rattle.propagation_points.specs.declared.held.Held.{Held}
use Rattle.propagation_points.specs.declared.held.Held.TheVariants.{One, Any}
use Rattle.propagation_points.specs.declared.side.Reach.{Reach}
use Rattle.propagation_points.specs.declared.side.Reach.TheVariants.{Whole, Only}
use Rattle.propagation_points.specs.Points.{keep_at, types_in}
use Rattle.propagation_points.specs.Uses.{covers, reach_of, set_outside}

-- ---- what is declared

-- A state or an event: its name, the number of its first variant, and its types, if it is declared with a set.
pub record Sort : Type 0 where
  pub name : List ℕ
  pub first : ℕ
  pub types : Option (List ℕ)

-- A variant: the name of a state or an event, and one of its types, if it has types.
pub record Variant : Type 0 where
  pub name : List ℕ
  pub type : Option ℕ

-- the types of the variants of what is declared with these types
abbrev pub variant_types : Option (List ℕ) → List (Option ℕ)
variant_types None = None ∷ []
variant_types (Some types) = map Some types

-- the variants of this name, for these types
abbrev pub variants_named : List ℕ → Option (List ℕ) → List Variant
variants_named name types = map (λ type. record { name = name; type = type }) (variant_types types)

-- the variants of a state or an event
abbrev pub variants_of : Sort → List Variant
variants_of sort = variants_named sort.name sort.types

-- The variants of states or of events, in order. A variant is numbered by its place, from 0.
abbrev pub all_variants : List Sort → List Variant
all_variants sorts = flat_map variants_of sorts

-- the types that are declared by a set, if there is one
abbrev pub declared_by : Table → Option Scope → Option TypeSet → Option (List ℕ)
declared_by table scope set = option_map (types_in table scope) set

-- ---- names

-- the place of a name among these
abbrev pub place_of_sort : List Sort → List ℕ → Option ℕ
place_of_sort sorts name = position (λ sort. is_same_text sort.name name) sorts

-- the one of a name
abbrev pub sort_named : List Sort → List ℕ → Option Sort
sort_named sorts name = option_and_then (slice_get sorts) (place_of_sort sorts name)

-- What is declared, with one more at the end. Of two states, or two events, of one name the first counts.
abbrev pub keep_sort : List Sort → List ℕ → Option (List ℕ) → List Sort
keep_sort sorts name types = keep_at (place_of_sort sorts name) sorts (record { name = name; first = length (all_variants sorts); types = types })

-- ---- references

-- the number of a variant this far behind the first, if its type is covered
abbrev pub covered_variant : Reach → ℕ → ℕ → ℕ → List ℕ
covered_variant reach first place type = cond (covers reach type) ((first + place) ∷ []) []

-- what is selected of a state or an event with this first variant and these types: what is declared and written without a set is
-- itself, and what is declared without a set has none of a type
abbrev pub selected : ℕ → Option (List ℕ) → Reach → Held
selected first None Whole = One first
selected first None (Only types) = Any []
selected first (Some types) reach = Any (numbered_from (covered_variant reach first) 0 types)

-- What a name with this set behind it selects: without a set all variants, and with one those of the types of the set.
abbrev pub held_by : Table → Option Scope → Sort → Option TypeSet → Held
held_by table scope sort set = selected sort.first sort.types (reach_of table scope set)

-- N10 at a set with a type that is not declared with the state or the event: one that is declared without a set has no type
abbrev pub sort_refusals : Table → Option Scope → Option Sort → Option TypeSet → List Refusal
sort_refusals table scope sort set = set_outside table scope (option_map (λ sort. unwrap_or sort.types []) sort) set

-- the numbers of the variants that are selected
abbrev pub held_numbers : Held → List ℕ
held_numbers (One number) = number ∷ []
held_numbers (Any numbers) = numbers

-- What a reference to a state selects.
abbrev pub state_held : Table → Option Scope → List Sort → StateRef → Option Held
state_held table scope states state = option_map (λ sort. held_by table scope sort state.set) (sort_named states state.name)

-- The refusals of a reference to a state: N11 where there is no such state, and N10 at its set.
abbrev pub state_refusals : Table → Option Scope → List Sort → StateRef → List Refusal
state_refusals table scope states state =
    refused_so (is_none (sort_named states state.name)) UnknownState state.spot ++ sort_refusals table scope (sort_named states state.name) state.set
