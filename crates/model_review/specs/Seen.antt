-- A model with its system: which facts may come about, which occur in formulas, and which are effects.
use Rattle.std.specs.Prelude.{ℕ, Bool, true, false, ◌&&◌, not, List, filter, flat_map, length, slice_get, unwrap_or, Option, Some, None, option_to_list}
use Rattle.std.specs.Option.{option_map_or}
use Rattle.propagation_points.specs.declared.side.Side.{Side}
use Rattle.propagation_points.specs.declared.side.Side.TheVariants.{Absent, Free, Declared}
use Rattle.plain_values.specs.Numbered.{numbers_below}
use Rattle.propagation_points.specs.States.{all_variants}
use Rattle.propagation_points.specs.Uses.{side_types}
use Rattle.propagation_links.specs.declared.link.PointAt.{PointAt}
use Rattle.model_facts.specs.Assembly.{Assembly, model_at}
use Rattle.model_facts.specs.Assembly.{side_at}
use Rattle.model_facts.specs.Effects.{effects_of}
use Rattle.model_facts.specs.Facts.{event_in, event_number, fact_in, fact_number}
use Rattle.model_facts.specs.declared.keys.EventKind.{EventKind}
use Rattle.model_facts.specs.declared.keys.EventKind.TheVariants.{Arrival, Declared as Error, Source}
use Rattle.model_facts.specs.declared.keys.FactKind.TheVariants.{State}
use Rattle.fault_system.specs.Systems.{System}
use Rattle.fact_formulas.specs.Facts.{fact_at}
use Rattle.fact_formulas.specs.Flat.{is_of_root, system_by}
use Rattle.fact_formulas.specs.Numbered.{Numbered, numbered_of}
use Rattle.system_review.specs.Alone.{made_by_event, made_by_fact}
use Rattle.system_review.specs.Occurring.{used_in}
use Rattle.system_review.specs.Possible.{always_in, possible_in}

-- what a review looks at: a model whose facts and events are numbered, its system, and those of its facts that are effects
pub record Seen : Type 0 where
  pub numbered : Numbered
  pub system : System
  pub effects : List ℕ

-- a model whose facts and events are numbered, with its system, of which these facts are effects
abbrev pub seen_by : Numbered → List ℕ → Seen
seen_by numbered effects = record { numbered = numbered; system = system_by numbered; effects = effects }

-- a model with its system
abbrev pub seen_of : Assembly → Seen
seen_of assembly = seen_by (numbered_of assembly) (effects_of assembly)

-- ---- sides

-- a side of a point; what is no point has none
abbrev pub side_in : Seen → PointAt → Side
side_in seen side = unwrap_or (side_at seen.numbered.assembly side) Absent

-- the types that may be at a side
abbrev pub types_in : Seen → PointAt → List ℕ
types_in seen side = side_types seen.numbered.universe (side_in seen side)

-- the types that are declared for a side, if any are
abbrev pub declared_for : Side → Option (List ℕ)
declared_for Absent = None
declared_for Free = None
declared_for (Declared types) = Some types

-- ---- facts

-- the number of the fact that a type is at a side
abbrev pub number_at : Seen → PointAt → ℕ → Option ℕ
number_at seen side type = fact_number seen.numbered.facts (fact_at type side)

-- the number of the fact that a component is in a state
abbrev pub state_number : Seen → ℕ → ℕ → Option ℕ
state_number seen owner state = fact_number seen.numbered.facts (fact_in owner (State state))

-- the number of the event of a source
abbrev pub source_number : Seen → ℕ → ℕ → Option ℕ
source_number seen owner flow = event_number seen.numbered.events (event_in owner (Source flow))

-- whether a fact is there, and may come about
abbrev pub may_come : Seen → Option ℕ → Bool
may_come seen fact = option_map_or (possible_in seen.system) fact false

-- whether a fact is there, and holds where no event occurs
abbrev pub is_always : Seen → Option ℕ → Bool
is_always seen fact = option_map_or (always_in seen.system) fact false

-- whether a fact is there, may come about, and occurs in no formula
abbrev pub stops : Seen → Option ℕ → Bool
stops seen fact = option_map_or (λ number. possible_in seen.system number && not (used_in seen.system number)) fact false

-- whether a fact is there, and occurs in a formula
abbrev pub is_used : Seen → Option ℕ → Bool
is_used seen fact = option_map_or (used_in seen.system) fact false

-- the facts that a component is in its states
abbrev pub states_of : Seen → ℕ → List ℕ
states_of seen owner =
    flat_map (λ state. option_to_list (state_number seen owner state)) (numbers_below (length (all_variants (model_at seen.numbered.assembly owner).states.sorts)))

-- ---- effects and events

-- the effects of the root: those of which its table of effects asks
abbrev pub root_effects : Seen → List ℕ
root_effects seen = filter (is_of_root seen.system) seen.effects

-- whether an event is an error event
abbrev pub is_error : EventKind → Bool
is_error (Error number) = true
is_error (Source flow) = false
is_error (Arrival point type) = false

-- whether the event of a number is an error event
abbrev pub is_error_event : Seen → ℕ → Bool
is_error_event seen number = option_map_or (λ event. is_error event.kind) (slice_get seen.numbered.events number) false

-- ---- what has no effect

-- whether a fact may come about, and does not make another one hold by itself, by way of these alone
abbrev pub is_lost_fact : Seen → List ℕ → ℕ → Option ℕ → Bool
is_lost_fact seen among target cause = option_map_or (λ number. possible_in seen.system number && not (made_by_fact seen.system among target number)) cause false

-- whether an event does not make a fact hold by itself
abbrev pub is_lost_event : Seen → ℕ → Option ℕ → Bool
is_lost_event seen target cause = option_map_or (λ number. not (made_by_event seen.system target number)) cause false
