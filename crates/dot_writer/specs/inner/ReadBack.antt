-- What a text tells of a tree.
use Rattle.std.specs.Prelude.{ℕ, ◌<◌, ◌^◌, List, map, Option, None, Some}
use Rattle.std.specs.List.{AllByRecursion}
use Rattle.fault_system.specs.Systems.{System, event_name}
use Rattle.property_reader.specs.declared.rate.Rate.{Rate}
use Rattle.round_gates.specs.declared.node.GateKind.{GateKind}
use Rattle.round_gates.specs.declared.tree.Gate.{Gate}
use Rattle.round_gates.specs.declared.tree.Input.{Input}
use Rattle.round_gates.specs.declared.tree.Input.TheVariants as inputs
use Rattle.round_gates.specs.declared.tree.Tree.{Tree}
use Rattle.galileo_writer.specs.Galileo.{IsKind}
use Rattle.galileo_writer.specs.TreeText.{gate_name, name_at, rate_of}

-- an input: its name, and the rate of an event
pub record ToldInput : Type 0 where
  pub name : List ℕ
  pub rate : Option Rate

-- a gate: its full name, its kind, and its inputs in order
pub record ToldGate : Type 0 where
  pub name : List ℕ
  pub kind : GateKind
  pub inputs : List ToldInput

-- what is told of an input
abbrev pub told_input : System → List Rate → List Gate → Input → ToldInput
told_input system rates gates (inputs.Event number) = record { name = event_name system number; rate = Some (rate_of rates number) }
told_input system rates gates (inputs.Gate number) = record { name = name_at system gates number; rate = None }

-- what is told of a gate
abbrev pub told_gate : System → List Rate → List Gate → Gate → ToldGate
told_gate system rates gates gate = record { name = gate_name system gate; kind = gate.kind; inputs = map (told_input system rates gates) gate.inputs }

-- What is told of a tree: each gate with its name, its kind and its inputs in order, and the rates of events.
abbrev pub tree_told : System → Tree → List Rate → List ToldGate
tree_told system tree rates = map (told_gate system rates tree.gates) tree.gates

-- ---- what may be told

-- a byte
abbrev pub IsByte : ℕ → Type 0
IsByte byte = byte < 256

-- a rate whose text is of bytes
abbrev pub IsPlainRate : Option Rate → Type 0
IsPlainRate None = Unit {0}
IsPlainRate (Some rate) = AllByRecursion IsByte rate.text

-- an input whose texts are of bytes
abbrev pub IsPlainInput : ToldInput → Type 0
IsPlainInput input = AllByRecursion IsByte input.name × IsPlainRate input.rate

-- a gate whose texts are of bytes, and whose kind has a number of 32 bits
abbrev pub IsPlainGate : ToldGate → Type 0
IsPlainGate gate = AllByRecursion IsByte gate.name × IsKind gate.kind × AllByRecursion IsPlainInput gate.inputs

-- an input whose number is of 32 bits
abbrev pub IsShortInput : Input → Type 0
IsShortInput (inputs.Event number) = number < 2 ^ 32
IsShortInput (inputs.Gate number) = number < 2 ^ 32

-- A tree that may be told: its texts are of bytes, and its numbers of 32 bits.
pub record IsTellable (system : System) (tree : Tree) (rates : List Rate) : Type 0 where
  pub plain : AllByRecursion IsPlainGate (tree_told system tree rates)
  pub short : AllByRecursion (λ gate. AllByRecursion IsShortInput gate.inputs) tree.gates
