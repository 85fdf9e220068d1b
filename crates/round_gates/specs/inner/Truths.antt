-- Beside specs/Truths.antt: what no clause of `run` reaches.
use Rattle.std.specs.Prelude.{◌≡◌, Bool, true, false, map}
use Rattle.fault_system.specs.Truth.{NumberSet}
use Rattle.round_gates.specs.declared.node.GateKey.{GateKey}
use Rattle.round_gates.specs.declared.node.Join.{Join}
use Rattle.round_gates.specs.declared.node.Join.TheVariants.{Plain, Made}
use Rattle.round_gates.specs.declared.node.Line.{Line}
use Rattle.round_gates.specs.declared.node.Node.{Node}
use Rattle.round_gates.specs.declared.node.Node.TheVariants.{Always, Never, Basic, Gate}
use Rattle.round_gates.specs.Truths.{kind_true}

-- which gates are true, by their names
abbrev pub GateSet : Type 0
GateSet = GateKey → Bool

-- whether a node is true
abbrev pub node_true : NumberSet → GateSet → Node → Bool
node_true events gates Always = true
node_true events gates Never = false
node_true events gates (Basic n) = events n
node_true events gates (Gate key) = gates key

-- whether what a rule gives is true
abbrev pub join_true : NumberSet → GateSet → Join → Bool
join_true events gates (Plain node) = node_true events gates node
join_true events gates (Made kind inputs) = kind_true kind (map (node_true events gates) inputs)

-- a gate is true exactly where its kind is true of its inputs
abbrev pub IsMet : NumberSet → GateSet → Line → Type 0
IsMet events gates line = gates line.key ≡ kind_true line.kind (map (node_true events gates) line.inputs)
