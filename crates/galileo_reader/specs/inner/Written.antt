-- The tree that is read of the text of a tree.
use Rattle.std.specs.Prelude.{ℕ, ◌==◌, List, map, slice_index_or}
use Rattle.std.specs.List.{position_or_len}
use Rattle.fault_system.specs.Systems.{System, event_name}
use Rattle.property_reader.specs.declared.rate.Rate.{Rate}
use Rattle.round_gates.specs.declared.tree.Gate.{Gate}
use Rattle.round_gates.specs.declared.tree.Input.{Input}
use Rattle.round_gates.specs.declared.tree.Input.TheVariants as inputs
use Rattle.round_gates.specs.declared.tree.Tree.{Tree}
use Rattle.galileo_writer.specs.TreeText.{gate_name, rate_of}
use Rattle.galileo_reader.specs.declared.tree.NamedEvent.{NamedEvent}
use Rattle.galileo_reader.specs.declared.tree.NamedGate.{NamedGate}
use Rattle.galileo_reader.specs.declared.tree.NamedTree.{NamedTree}

-- the place of an event of the system among the events of a tree
abbrev pub event_place : List ℕ → ℕ → ℕ
event_place events number = position_or_len (λ event. event == number) events

-- the event of the system that stands at a place among the events of a tree
abbrev pub event_at : List ℕ → ℕ → ℕ
event_at events place = slice_index_or events place 0

-- the events that stand at places
abbrev pub events_at : List ℕ → List ℕ → List ℕ
events_at events places = map (event_at events) places

-- an input, where the events of the tree are numbered by their places
abbrev pub named_input : Tree → Input → Input
named_input tree (inputs.Event n) = inputs.Event (event_place tree.events n)
named_input tree (inputs.Gate n) = inputs.Gate n

abbrev pub named_gate : System → Tree → Gate → NamedGate
named_gate system tree gate = record { name = gate_name system gate; kind = gate.kind; inputs = map (named_input tree) gate.inputs }

abbrev pub named_event : System → List Rate → ℕ → NamedEvent
named_event system rates number = record { name = event_name system number; rate = rate_of rates number }

-- a tree under the names that are written: its gates, their kinds and their inputs in order, its top, its events and their rates
abbrev pub named_tree : System → Tree → List Rate → NamedTree
named_tree system tree rates =
    record { top = inputs.Gate tree.top; gates = map (named_gate system tree) tree.gates; events = map (named_event system rates) tree.events }
