-- What the target of a hazard means: facts and events of a model, by their names.
use Rattle.std.specs.Prelude.{ℕ, cond, ◌-◌, ◌==◌, Bool, List, [], ◌∷◌, ◌++◌, codes, drop, filter, flat_map, length, map, slice_get}
use Rattle.std.specs.Option.{option_map_or}
use Rattle.plain_values.specs.Name.{is_same_text}
use Rattle.plain_values.specs.Numbered.{numbered_from}
use Rattle.fault_system.specs.declared.formula.EventInfo.{EventInfo}
use Rattle.fault_system.specs.declared.formula.FactInfo.{FactInfo}
use Rattle.package_index.specs.Names.{front, is_same_name, last}
use Rattle.instantiator.specs.Whole.{Instance}

-- ---- names

-- the path of the component of a number
abbrev pub path_in : Instance → ℕ → List (List ℕ)
path_in instance number = option_map_or (λ component. component.path) (slice_get instance.components number) []

-- the name of a component by its path: `root`, and each name behind a dot
abbrev pub part_text : List (List ℕ) → List ℕ
part_text path = codes "root" ++ flat_map (λ name. codes "." ++ name) path

-- the last of names, and nothing where there are none
abbrev pub last_text : List (List ℕ) → List ℕ
last_text names = option_map_or (λ name. name) (last names) []

-- what a fact is called, without its type, by the names of its component's path and its own, with this word before that
abbrev pub own_text : List ℕ → List (List ℕ) → List ℕ
own_text word names = part_text (front names) ++ (word ++ last_text names)

-- the name of a state without its type: `root.a/state:s`
abbrev pub state_text : List (List ℕ) → List ℕ
state_text names = own_text (codes "/state:") names

-- the name of what comes out of a point without its type: `root.a/out:p`
abbrev pub out_text : List (List ℕ) → List ℕ
out_text names = own_text (codes "/out:") names

-- the name of a fact without its type: what stands before the first `{`
abbrev pub bare_name : List ℕ → List ℕ
bare_name [] = []
bare_name (byte ∷ bytes) = cond (byte == 123) [] (byte ∷ bare_name bytes)

-- ---- facts and events by names

-- the number of a key, if it is this name
abbrev pub number_of : List (List ℕ) → ℕ → List (List ℕ) → List ℕ
number_of name number key = cond (is_same_name key name) (number ∷ []) []

-- the numbers of the keys that are this name, rising
abbrev pub numbers_named : List (List (List ℕ)) → List (List ℕ) → List ℕ
numbers_named keys name = numbered_from (number_of name) 0 keys

-- the names of facts without their types
abbrev pub fact_keys : List FactInfo → List (List (List ℕ))
fact_keys facts = map (λ fact. bare_name fact.name ∷ []) facts

-- the facts whose name without its type is this one
abbrev pub facts_named : List FactInfo → List ℕ → List ℕ
facts_named facts text = numbers_named (fact_keys facts) (text ∷ [])

-- the whole name of an event: the path of its component, and then its key
abbrev pub whole_name : Instance → EventInfo → List (List ℕ)
whole_name instance event = path_in instance event.owner ++ event.key

-- the whole names of events
abbrev pub event_keys : Instance → List EventInfo → List (List (List ℕ))
event_keys instance events = map (whole_name instance) events

-- whether a text ends with another
abbrev pub ends_with : List ℕ → List ℕ → Bool
ends_with end text = is_same_text (drop (length text - length end) text) end

-- how a name ends that has a type of this name: `::t}`
abbrev pub type_end : List ℕ → List ℕ
type_end type = codes "::" ++ (type ++ codes "}")

-- the name of the fact of a number
abbrev pub name_at : List FactInfo → ℕ → List ℕ
name_at facts number = option_map_or (λ fact. fact.name) (slice_get facts number) []

-- whether the type of the fact of a number has this name
abbrev pub is_of_type : List FactInfo → List ℕ → ℕ → Bool
is_of_type facts type number = ends_with (type_end type) (name_at facts number)

-- The facts that names mean, from the root on: the state of the last name of the component to which the others lead, with each of its types; what comes out
-- of the point of the last name there, of all types; and what comes out of the point of the last name but one, of the type of the last name.
abbrev pub facts_meant : List FactInfo → List (List ℕ) → List ℕ
facts_meant facts names =
    facts_named facts (state_text names) ++ (facts_named facts (out_text names) ++ filter (is_of_type facts (last_text names)) (facts_named facts (out_text (front names))))

-- The events that names mean, from the root on: those of the component to which the first names lead whose key is what is left.
abbrev pub events_meant : Instance → List EventInfo → List (List ℕ) → List ℕ
events_meant instance events names = numbers_named (event_keys instance events) names
