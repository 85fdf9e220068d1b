-- Beside specs/Trees.antt: what no clause of `run` reaches.
use Rattle.std.specs.Prelude.{ℕ, ◌≡◌, Bool, true, List, [], map, slice_get, Option, Some, None, unwrap_or, position}
use Rattle.fault_system.specs.Truth.{NumberSet, Has}
use Rattle.round_gates.specs.declared.node.GateKey.{GateKey}
use Rattle.round_gates.specs.declared.node.GateKind.TheVariants.{Or}
use Rattle.round_gates.specs.declared.node.Line.{Line}
use Rattle.round_gates.specs.declared.node.Node.{Node}
use Rattle.round_gates.specs.declared.node.Node.TheVariants as nodes
use Rattle.round_gates.specs.declared.tree.Gate.{Gate}
use Rattle.round_gates.specs.declared.tree.Input.{Input}
use Rattle.round_gates.specs.declared.tree.Input.TheVariants as inputs
use Rattle.round_gates.specs.declared.tree.Tree.{Tree}
use Rattle.round_gates.specs.Nodes.{same_key}
use Rattle.round_gates.specs.Truths.{kind_true}
use Rattle.round_gates.specs.inner.Reached.{first_line}
use Rattle.round_gates.specs.Trees.{events_in}

-- whether an input is true under a set of events and a set of gates
abbrev pub input_true : NumberSet → NumberSet → Input → Bool
input_true events gates (inputs.Event n) = events n
input_true events gates (inputs.Gate n) = gates n

-- whether a gate is true under a set of events and a set of gates
abbrev pub gate_true : NumberSet → NumberSet → Gate → Bool
gate_true events gates gate = kind_true gate.kind (map (input_true events gates) gate.inputs)

-- a set of positions has each gate that is true under the events and the set
abbrev pub IsClosedTree : List Gate → NumberSet → NumberSet → Type 0
IsClosedTree gates events set = (n : ℕ) (gate : Gate) → slice_get gates n ≡ Some gate → gate_true events set gate ≡ true → Has set n

-- a tree is true under a set of events if each such set has its top
abbrev pub TreeHolds : Tree → NumberSet → Type 0
TreeHolds tree events = (set : NumberSet) → IsClosedTree tree.gates events set → Has set tree.top

-- the position of a name
abbrev pub place_of : List GateKey → GateKey → ℕ
place_of keys key = unwrap_or (position (λ other. same_key key other) keys) 0

-- the input that a node is; a constant is no input
abbrev pub input_for : List GateKey → Node → Input
input_for keys nodes.Always = inputs.Event 0
input_for keys nodes.Never = inputs.Event 0
input_for keys (nodes.Basic n) = inputs.Event n
input_for keys (nodes.Gate key) = inputs.Gate (place_of keys key)

-- a gate with a name, made of one with nodes as inputs
abbrev pub gate_with : List GateKey → GateKey → Option Line → Gate
gate_with keys key None = record { fact = key.fact; stage = key.stage; place = key.place; kind = Or; inputs = [] }
gate_with keys key (Some line) = record { fact = key.fact; stage = key.stage; place = key.place; kind = line.kind; inputs = map (input_for keys) line.inputs }

-- the gate of a name
abbrev pub gate_for : List Line → List GateKey → GateKey → Gate
gate_for lines keys key = gate_with keys key (first_line lines key)

-- the tree of these gates, by their names
abbrev pub tree_of : ℕ → List Line → List GateKey → GateKey → Tree
tree_of events lines keys top =
    record {
      top = place_of keys top;
      gates = map (gate_for lines keys) keys;
      events = events_in events (map (gate_for lines keys) keys);
    }
