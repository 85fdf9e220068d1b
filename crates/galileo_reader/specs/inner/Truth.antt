-- Beside specs/Truth.antt: what no clause of `run` reaches.
use Rattle.std.specs.Prelude.{ℕ, ◌≡◌, Bool, List, [], ◌++◌, map, flat_map, Option, Some, None, option_to_list, slice_get, unwrap_or}
use Rattle.std.specs.Option.{option_map}
use Rattle.round_gates.specs.declared.tree.Input.{Input}
use Rattle.round_gates.specs.declared.tree.Input.TheVariants as inputs
use Rattle.galileo_writer.specs.Galileo.{Galileo, Line, GateLine, EventLine}
use Rattle.galileo_writer.specs.Truth.{NameSet, Tells}
use Rattle.galileo_reader.specs.declared.statement.PlacedName.{PlacedName}
use Rattle.galileo_reader.specs.declared.statement.Statement.{Statement}
use Rattle.galileo_reader.specs.declared.statement.Statement.TheVariants.{Top, Gate, Event}
use Rattle.galileo_reader.specs.declared.tree.NamedEvent.{NamedEvent}
use Rattle.galileo_reader.specs.declared.tree.NamedGate.{NamedGate}
use Rattle.galileo_reader.specs.declared.tree.NamedTree.{NamedTree}
use Rattle.galileo_reader.specs.Nodes.{top_of}
use Rattle.galileo_reader.specs.Statements.{AreLines}
use Rattle.galileo_reader.specs.Truth.{event_name}

-- what a line says of a node, without places and counts; the line of the top says nothing of one
abbrev pub line_in : Statement → Option Line
line_in (Top at name) = None
line_in (Gate name kind count ins) = Some (GateLine name.name kind (map (λ input. input.name) ins))
line_in (Event name rate) = Some (EventLine name.name rate)

-- lines with this top, as the text of which the truth speaks
abbrev pub galileo_of : List Statement → PlacedName → Galileo
galileo_of lines top = record { top = top.name; lines = flat_map (λ line. option_to_list (line_in line)) lines }

-- Bytes are, in the first reading or in the wide one, lines with a top, which are true for a set of names of basic events: the top is in the least set of names that
-- has each event of the set and each gate whose line is true.
pub record StaticTrue (wide : Bool) (text : List ℕ) (given : NameSet) : Type 0 where
  pub lines : List Statement
  pub are_lines : AreLines wide text 0 lines
  pub top : PlacedName
  pub top_is : top_of lines ≡ Some top
  pub tells : Tells (galileo_of lines top) given

-- ---- a tree as such a text

-- the name of a gate by its number
abbrev pub gate_name : NamedTree → ℕ → List ℕ
gate_name tree n = unwrap_or (option_map (λ gate. gate.name) (slice_get tree.gates n)) []

-- the name of a node
abbrev pub input_name : NamedTree → Input → List ℕ
input_name tree (inputs.Event n) = event_name tree n
input_name tree (inputs.Gate n) = gate_name tree n

abbrev pub gate_line : NamedTree → NamedGate → Line
gate_line tree gate = GateLine gate.name gate.kind (map (input_name tree) gate.inputs)

abbrev pub event_line : NamedEvent → Line
event_line event = EventLine event.name event.rate

-- a tree as a text: its gates, and then its events
abbrev pub tree_galileo : NamedTree → Galileo
tree_galileo tree = record { top = input_name tree tree.top; lines = map (gate_line tree) tree.gates ++ map event_line tree.events }
