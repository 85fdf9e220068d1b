-- The names of a model's facts and events, and what lies below a component.
use Rattle.std.specs.Prelude.{ℕ, Bool, ◌&&◌, ◌||◌, ◌==◌, nat_lt, List, length, map, take, slice_index, Option, position}
use Rattle.plain_values.specs.Name.{folded, is_same_text}
use Rattle.fault_system.specs.Systems.{System}
use Rattle.requirements.specs.declared.words.PlacedWord.{PlacedWord}

-- the names of the facts, in their order
abbrev pub fact_names : System → List (List ℕ)
fact_names system = map (λ fact. fact.name) system.facts

-- the names of the events, in their order
abbrev pub event_names : System → List (List ℕ)
event_names system = map (λ event. event.name) system.events

-- the number of the fact of a name
abbrev pub fact_named : System → List ℕ → Option ℕ
fact_named system name = position (λ other. is_same_text other name) (fact_names system)

-- the number of the event of a name
abbrev pub event_named : System → List ℕ → Option ℕ
event_named system name = position (λ other. is_same_text other name) (event_names system)

-- the sign between the names of components, or the one before what a component has
abbrev pub is_sign : ℕ → Bool
is_sign byte = byte == 46 || byte == 47

-- whether a name is one of what lies below a component: it begins with the component's name, and goes on with such a sign
abbrev pub is_below : List ℕ → List ℕ → Bool
is_below part name = nat_lt (length part) (length name) && (is_same_text (take (length part) name) part && is_sign (slice_index name (length part)))

-- the name of an item as it is compared, with each letter in lower case, where this is the word of it
abbrev pub called : {Item : Type 0} → (Item → PlacedWord) → Item → List ℕ
called word_of item = folded (word_of item).text

-- the place of the first of some names that is this one
abbrev pub place_of : List (List ℕ) → List ℕ → Option ℕ
place_of names name = position (λ other. is_same_text other name) names
