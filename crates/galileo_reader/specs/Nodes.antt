-- The nodes that lines tell of, by their names and by their numbers.
use Rattle.std.specs.Prelude.{ℕ, ◌+◌, Bool, true, false, ◌==◌, if◌then◌else◌, List, [], ◌∷◌, ◌++◌, length, map, flat_map, Option, Some, None, is_some, option_to_list, unwrap_or, slice_index_or}
use Rattle.std.specs.List.{list_any}
use Rattle.std.specs.Option.{option_or}
use Rattle.plain_values.specs.Name.{is_same_text}
use Rattle.round_gates.specs.declared.tree.Input.{Input}
use Rattle.round_gates.specs.declared.tree.Input.TheVariants as inputs
use Rattle.galileo_reader.specs.declared.statement.PlacedName.{PlacedName}
use Rattle.galileo_reader.specs.declared.statement.Statement.{Statement}
use Rattle.galileo_reader.specs.declared.statement.Statement.TheVariants.{Top, Gate, Event}
use Rattle.galileo_reader.specs.declared.tree.NamedEvent.{NamedEvent}
use Rattle.galileo_reader.specs.declared.tree.NamedGate.{NamedGate}
use Rattle.galileo_reader.specs.declared.tree.NamedTree.{NamedTree}

-- the first answer that one of these has
abbrev pub first_some : {X Y : Type 0} → (X → Option Y) → List X → Option Y
first_some answer [] = None
first_some answer (x ∷ xs) = option_or (answer x) (first_some answer xs)

-- the place of a line: that of its first byte that is not a blank
abbrev pub place_of : Statement → ℕ
place_of (Top at name) = at
place_of (Gate name kind count inputs) = name.at
place_of (Event name rate) = name.at

-- ---- the nodes

-- the node of a name, of lines behind so many gates and so many events: gates and events are numbered each for themselves
abbrev pub node_from : ℕ → ℕ → List Statement → List ℕ → Option Input
node_from gates events [] name = None
node_from gates events (Top at top ∷ lines) name = node_from gates events lines name
node_from gates events (Gate own kind count ins ∷ lines) name =
    if is_same_text own.name name then Some (inputs.Gate gates) else node_from (gates + 1) events lines name
node_from gates events (Event own rate ∷ lines) name =
    if is_same_text own.name name then Some (inputs.Event events) else node_from gates (events + 1) lines name

-- the node that a name names, where a line tells of it
abbrev pub node_of : List Statement → List ℕ → Option Input
node_of lines name = node_from 0 0 lines name

-- ---- a second line of a name, or a second top

abbrev pub is_top : Statement → Bool
is_top (Top at name) = true
is_top _ = false

-- whether a line tells again of what an earlier one tells
abbrev pub is_second : List Statement → Statement → Bool
is_second earlier (Top at name) = list_any is_top earlier
is_second earlier (Gate name kind count ins) = is_some (node_of earlier name.name)
is_second earlier (Event name rate) = is_some (node_of earlier name.name)

-- the place of the first line that does, of lines behind earlier ones
abbrev pub second_after : List Statement → List Statement → Option ℕ
second_after earlier [] = None
second_after earlier (line ∷ lines) = if is_second earlier line then Some (place_of line) else second_after (earlier ++ line ∷ []) lines

abbrev pub second_line : List Statement → Option ℕ
second_line lines = second_after [] lines

-- ---- counts of inputs

-- the place of a line that says that its gate has another number of inputs than it names
abbrev pub wrong_count : Statement → Option ℕ
wrong_count (Gate name kind (Some count) ins) = if count == length ins then None else Some name.at
wrong_count _ = None

abbrev pub bad_count : List Statement → Option ℕ
bad_count lines = first_some wrong_count lines

-- ---- the top, and names that no line has

abbrev pub top_in : Statement → Option PlacedName
top_in (Top at name) = Some name
top_in _ = None

-- the name of the top
abbrev pub top_of : List Statement → Option PlacedName
top_of lines = first_some top_in lines

-- the names of nodes that a line asks for, in the order of the text
abbrev pub asked : Statement → List PlacedName
asked (Top at name) = name ∷ []
asked (Gate name kind count ins) = ins
asked (Event name rate) = []

-- the place of a name that no line has
abbrev pub unknown_name : List Statement → PlacedName → Option ℕ
unknown_name lines name = if is_some (node_of lines name.name) then None else Some name.at

-- the place of the first such name, in the order of the text
abbrev pub unknown_node : List Statement → Option ℕ
unknown_node lines = first_some (λ line. first_some (unknown_name lines) (asked line)) lines

-- ---- the tree

-- the node that a name names; event 0 where it names none, which no tree has
abbrev pub input_of : List Statement → PlacedName → Input
input_of lines name = unwrap_or (node_of lines name.name) (inputs.Event 0)

-- the gate of a line
abbrev pub gate_in : List Statement → Statement → Option NamedGate
gate_in lines (Gate name kind count ins) = Some (record { name = name.name; kind = kind; inputs = map (input_of lines) ins })
gate_in lines _ = None

abbrev pub gates_of : List Statement → List NamedGate
gates_of lines = flat_map (λ line. option_to_list (gate_in lines line)) lines

-- the basic event of a line
abbrev pub event_in : Statement → Option NamedEvent
event_in (Event name rate) = Some (record { name = name.name; rate = rate })
event_in _ = None

abbrev pub events_of : List Statement → List NamedEvent
events_of lines = flat_map (λ line. option_to_list (event_in line)) lines

-- the places of the lines of gates
abbrev pub gate_place : Statement → Option ℕ
gate_place (Gate name kind count ins) = Some name.at
gate_place _ = None

abbrev pub gate_places : List Statement → List ℕ
gate_places lines = flat_map (λ line. option_to_list (gate_place line)) lines

-- the place of the line of a gate by its number
abbrev pub place_of_gate : List Statement → ℕ → ℕ
place_of_gate lines n = slice_index_or (gate_places lines) n 0

-- the tree of lines with this top
abbrev pub tree_of : List Statement → PlacedName → NamedTree
tree_of lines top = record { top = input_of lines top; gates = gates_of lines; events = events_of lines }
