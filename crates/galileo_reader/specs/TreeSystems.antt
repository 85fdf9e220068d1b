-- The system of a tree: its gates as facts, and its events.
use Rattle.std.specs.Prelude.{ℕ, List, [], ◌∷◌, ◌++◌, length, map}
use Rattle.fault_system.specs.Systems.{System}
use Rattle.fault_system.specs.declared.formula.EventInfo.{EventInfo}
use Rattle.fault_system.specs.declared.formula.FactInfo.{FactInfo}
use Rattle.round_gates.specs.Formulas.{input_formula, kind_formula}
use Rattle.round_gates.specs.declared.node.GateKind.TheVariants as kinds
use Rattle.round_gates.specs.declared.tree.Input.{Input}
use Rattle.round_gates.specs.declared.tree.Input.TheVariants as inputs
use Rattle.galileo_reader.specs.declared.tree.NamedEvent.{NamedEvent}
use Rattle.galileo_reader.specs.declared.tree.NamedGate.{NamedGate}
use Rattle.galileo_reader.specs.declared.tree.NamedTree.{NamedTree}
use Rattle.galileo_reader.specs.Truth.{event_name}

-- a gate as a fact of its name: gates stand for facts by their numbers
abbrev pub gate_fact : NamedGate → FactInfo
gate_fact gate = record { name = gate.name; owner = 0; formula = kind_formula gate.kind (map input_formula gate.inputs) }

-- an event, which has no names by which a rate is looked up
abbrev pub event_info : NamedEvent → EventInfo
event_info event = record { name = event.name; owner = 0; key = [] }

-- a top that is an event is one more fact of its name: an `or` of the event
abbrev pub top_facts : NamedTree → Input → List FactInfo
top_facts tree (inputs.Gate n) = []
top_facts tree (inputs.Event n) = record { name = event_name tree n; owner = 0; formula = kind_formula kinds.Or (map input_formula (inputs.Event n ∷ [])) } ∷ []

-- the gates of a tree as facts, in order, and then the top where it is an event; and its events
abbrev pub system_of : NamedTree → System
system_of tree = record { facts = map gate_fact tree.gates ++ top_facts tree tree.top; events = map event_info tree.events }

-- the fact that the top is
abbrev pub target_of : NamedTree → Input → ℕ
target_of tree (inputs.Gate n) = n
target_of tree (inputs.Event n) = length tree.gates
