-- What a table knows of the events that lead to states.
use Rattle.std.specs.Prelude.{ℕ, ◌≡◌, Bool, cond, List, filter_map, fold, Option, None, Some, option_copied, option_map}
use Rattle.std.specs.List.{list_any}
use denote.Ref.{Bor}
use Rattle.plain_values.specs.Name.{is_same_text}
use Rattle.aadl_syntax.specs.declared.error_model.StateRef.{StateRef}
use Rattle.aadl_syntax.specs.declared.error_model.Transition.{Transition}
use Rattle.rate_keys.specs.Keys.{is_among, is_event_of, said_by}

-- The names of the events of a component, and its transitions.
pub record Lone : Type 0 where
  pub events : List (List ℕ)
  pub transitions : List Transition

-- these events and transitions
abbrev pub lone : List (List ℕ) → List Transition → Lone
lone events transitions = record { events = events; transitions = transitions }

-- what is said of a state so far: nothing; or the event that all say, if it is one
abbrev pub Found : Type 0
Found = Option (Option (List ℕ))

-- the same with what one transition more says
abbrev pub join : Found → Option (List ℕ) → Found
join None word = Some word
join (Some None) word = Some None
join (Some (Some event)) word = cond (is_event_of event word) (Some (Some event)) (Some None)

-- what these transitions say of a state
abbrev pub found : List (List ℕ) → List Transition → List ℕ → Found
found events transitions state = fold join None (filter_map (said_by events state) transitions)

-- what a table gives
abbrev pub held : Option (Option (Bor (List ℕ))) → Found
held entry = option_map option_copied entry

-- The set has exactly the names that are among these.
abbrev pub KnowsNames : List (List ℕ) → (Bor (List ℕ) → Bool) → Type 0
KnowsNames names has = (name : Bor (List ℕ)) → has name ≡ is_among names name.now

-- The table gives each state what these transitions say of it.
abbrev pub KnowsFound : List (List ℕ) → List Transition → (Bor (List ℕ) → Option (Option (Bor (List ℕ)))) → Type 0
KnowsFound events transitions table = (state : Bor (List ℕ)) → held (table state) ≡ found events transitions state.now

-- The new table has what is said more of one state, and is else the old one.
abbrev pub SaysOf : (Bor (List ℕ) → Option (Option (Bor (List ℕ)))) → (Bor (List ℕ) → Option (Option (Bor (List ℕ)))) → List ℕ → Option (List ℕ) → Type 0
SaysOf old new name word = (state : Bor (List ℕ)) → held (new state) ≡ cond (is_same_text name state.now) (join (held (old state)) word) (held (old state))

-- whether one of these is a state of this name
abbrev pub has_state : List StateRef → List ℕ → Bool
has_state targets state = list_any (λ target. is_same_text target.name state) targets

-- The new table has what is said more of each of these states, and is else the old one.
abbrev pub SaysOfEach : (Bor (List ℕ) → Option (Option (Bor (List ℕ)))) → (Bor (List ℕ) → Option (Option (Bor (List ℕ)))) → List StateRef → Option (List ℕ) → Type 0
SaysOfEach old new targets word = (state : Bor (List ℕ)) → held (new state) ≡ cond (has_state targets state.now) (join (held (old state)) word) (held (old state))

-- what is said of a state, with what a transition says, if it says something
abbrev pub join_said : Found → Option (Option (List ℕ)) → Found
join_said found None = found
join_said found (Some word) = join found word

-- The new table has what a transition says, and is else the old one.
abbrev pub AddsTransition : List (List ℕ) → (Bor (List ℕ) → Option (Option (Bor (List ℕ)))) → (Bor (List ℕ) → Option (Option (Bor (List ℕ)))) → Transition → Type 0
AddsTransition events old new transition = (state : Bor (List ℕ)) → held (new state) ≡ join_said (held (old state)) (said_by events state.now transition)
