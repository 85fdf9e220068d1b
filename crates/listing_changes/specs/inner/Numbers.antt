-- By which numbers another system has the events of a system.
use Rattle.std.specs.Prelude.{ℕ, ◌≡◌, List, map, Contains, Option, None, Some, position, slice_index_or}
use Rattle.plain_values.specs.Name.{is_same_text}
use Rattle.fault_system.specs.Systems.{System}

-- the names of the events of a system, in their order
abbrev pub event_names : System → List (List ℕ)
event_names system = map (λ event. event.name) system.events

-- the place of a name among others
abbrev pub place_of : List (List ℕ) → List ℕ → Option ℕ
place_of names name = position (λ other. is_same_text other name) names

-- for each event of the one system the number of the event of this name in the other
abbrev pub numbers_there : System → System → List (Option ℕ)
numbers_there here there = map (λ event. place_of (event_names there) event.name) here.events

-- the number of an event in such a table
abbrev pub number_of : List (Option ℕ) → ℕ → Option ℕ
number_of table event = slice_index_or table event None

-- each event of a set has a number in the table, and these are the numbers, in the order of the events
abbrev pub AreNumbers : List (Option ℕ) → List ℕ → List ℕ → Type 0
AreNumbers table set numbers = map (number_of table) set ≡ map Some numbers

-- some event of a set has none
abbrev pub LacksNumber : List (Option ℕ) → List ℕ → Type 0
LacksNumber table set = (event : ℕ) × Contains set event × (number_of table event ≡ None)
