-- The tree of a target.
use Rattle.std.specs.Prelude.{ℕ, ◌+◌, ◌<◌, ◌≡◌, ◌≢◌, Bool, true, false, List, [], ◌∷◌, length, map, filter, slice_get, slice_index_or, Some, ◌==◌}
use Rattle.std.specs.List.{AllByRecursion, list_any, range_with_len}
use Rattle.std.specs.Ordering.{nat_cmp, ordering_then}
use Rattle.std.specs.declared.cmp.Ordering.{Ordering}
use Rattle.std.specs.declared.cmp.Ordering.TheVariants.{Less}
use Rattle.fault_system.specs.Truth.{NumberSet, Has}
use Rattle.fault_system.specs.Systems.{System}
use Rattle.dependency_blocks.specs.Blocks.{BlockNumbers, number_of, size_of}
use Rattle.round_gates.specs.declared.node.GateKey.{GateKey}
use Rattle.round_gates.specs.declared.node.GateKind.TheVariants.{Or}
use Rattle.round_gates.specs.declared.node.Line.{Line}
use Rattle.round_gates.specs.declared.node.Node.{Node}
use Rattle.round_gates.specs.declared.node.Node.TheVariants as nodes
use Rattle.round_gates.specs.declared.tree.Gate.{Gate}
use Rattle.round_gates.specs.declared.tree.Input.{Input}
use Rattle.round_gates.specs.declared.tree.Input.TheVariants as inputs
use Rattle.round_gates.specs.declared.tree.Tree.{Tree}
use Rattle.round_gates.specs.Stages.{last_node, IsGateOf}

-- names of gates are compared by fact, then by stage, then by place
abbrev pub key_cmp : GateKey → GateKey → Ordering
key_cmp a b = ordering_then (nat_cmp a.fact b.fact) (ordering_then (nat_cmp a.stage b.stage) (nat_cmp a.place b.place))

-- each name comes before the next
abbrev pub NamesRise : List GateKey → Type 0
NamesRise keys = (n : ℕ) (d : GateKey) → n + 1 < length keys → key_cmp (slice_index_or keys n d) (slice_index_or keys (n + 1) d) ≡ Less

-- the name of a gate
abbrev pub key_of : Gate → GateKey
key_of gate = record { fact = gate.fact; stage = gate.stage; place = gate.place }

-- the name of the gate at a position
abbrev pub key_in : List Gate → ℕ → GateKey
key_in gates n = slice_index_or (map key_of gates) n (record { fact = 0; stage = 0; place = 0 })

-- the node that an input is
abbrev pub node_of : List Gate → Input → Node
node_of gates (inputs.Event n) = nodes.Basic n
node_of gates (inputs.Gate n) = nodes.Gate (key_in gates n)

-- a gate of a tree by its name, with its inputs as nodes
abbrev pub line_of : List Gate → Gate → Line
line_of gates gate = record { key = key_of gate; kind = gate.kind; inputs = map (node_of gates) gate.inputs }

-- whether an input is the gate at a position
abbrev pub is_gate : ℕ → Input → Bool
is_gate n (inputs.Event m) = false
is_gate n (inputs.Gate m) = m == n

-- whether an input is the event of a number
abbrev pub is_event : ℕ → Input → Bool
is_event n (inputs.Event m) = m == n
is_event n (inputs.Gate m) = false

-- no input comes twice
abbrev pub InputsOnce : List Input → Type 0
InputsOnce [] = Unit {0}
InputsOnce (input ∷ inputs) = AllByRecursion (λ other. input ≢ other) inputs × InputsOnce inputs

-- whether the gate at a position is among some inputs
abbrev pub has_gate : List Input → ℕ → Bool
has_gate inputs n = list_any (is_gate n) inputs

-- the numbers of the events that are inputs of some gates, of so many events, rising
abbrev pub events_in : ℕ → List Gate → List ℕ
events_in events gates = filter (λ n. list_any (λ gate. list_any (is_event n) gate.inputs) gates) (range_with_len 0 events)

-- with each gate a set of positions has those of its inputs
abbrev pub HasInputGates : List Gate → NumberSet → Type 0
HasInputGates gates set =
    (n m : ℕ) (gate : Gate) → Has set n → slice_get gates n ≡ Some gate → has_gate gate.inputs m ≡ true → Has set m

-- one gate leads to another: it is the same, or it can be gone to the other by "is an input of"
abbrev pub LeadsTo : List Gate → ℕ → ℕ → Type 0
LeadsTo gates from to = (set : NumberSet) → HasInputGates gates set → Has set from → Has set to

-- The gates of a tree whose top has a name: each is a gate of a stage with exactly its inputs, none of them twice; they rise
-- by fact, stage and place; exactly those that the top leads to are there; and none leads back to itself.
pub record IsGateTree (system : System) (numbers : BlockNumbers) (top : GateKey) (tree : Tree) : Type 0 where
  pub top_in : tree.top < length tree.gates
  pub top_is : key_in tree.gates tree.top ≡ top
  pub gates_are : (n : ℕ) (gate : Gate) → slice_get tree.gates n ≡ Some gate → IsGateOf system numbers (line_of tree.gates gate)
  pub inputs_once : (n : ℕ) (gate : Gate) → slice_get tree.gates n ≡ Some gate → InputsOnce gate.inputs
  pub inputs_in : (n m : ℕ) (gate : Gate) → slice_get tree.gates n ≡ Some gate → has_gate gate.inputs m ≡ true → m < length tree.gates
  pub rise : NamesRise (map key_of tree.gates)
  pub reached : (n : ℕ) → n < length tree.gates → LeadsTo tree.gates tree.top n
  pub acyclic : (n m : ℕ) (gate : Gate) → slice_get tree.gates n ≡ Some gate → has_gate gate.inputs m ≡ true → LeadsTo tree.gates m n → ⊥
  pub events : tree.events ≡ events_in (length system.events) tree.gates

-- the tree of one event: an `or` gate at the last stage of the target with this input
abbrev pub event_tree : BlockNumbers → ℕ → ℕ → Tree
event_tree numbers target event =
    record {
      top = 0;
      gates = record { fact = target; stage = size_of numbers (number_of numbers target); place = 0; kind = Or; inputs = inputs.Event event ∷ [] } ∷ [];
      events = event ∷ [];
    }

-- the tree of a node
abbrev pub IsTreeOf : System → BlockNumbers → ℕ → Tree → Node → Type 0
IsTreeOf system numbers target tree nodes.Always = ⊥
IsTreeOf system numbers target tree nodes.Never = ⊥
IsTreeOf system numbers target tree (nodes.Basic n) = tree ≡ event_tree numbers target n
IsTreeOf system numbers target tree (nodes.Gate key) = IsGateTree system numbers key tree

-- the tree of a target: that of the node of its last stage
abbrev pub IsTree : System → BlockNumbers → ℕ → Tree → Type 0
IsTree system numbers target tree = IsTreeOf system numbers target tree (last_node system numbers target)
