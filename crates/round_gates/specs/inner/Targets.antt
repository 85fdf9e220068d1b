-- Beside specs/Targets.antt: what no clause of `run` reaches.
use Rattle.std.specs.Prelude.{ℕ, ◌<◌, ◌≤◌, ◌≡◌, ◌^◌, true, length, map, slice_get, Some}
use Rattle.std.specs.List.{AllByRecursion}
use Rattle.fault_system.specs.Systems.{System}
use Rattle.round_gates.specs.declared.node.GateKind.{GateKind}
use Rattle.round_gates.specs.declared.node.GateKind.TheVariants.{And, Or, AtLeast}
use Rattle.round_gates.specs.declared.tree.Gate.{Gate}
use Rattle.round_gates.specs.declared.tree.GateAnswer.{GateAnswer}
use Rattle.round_gates.specs.declared.tree.GateAnswer.TheVariants.{Constant, Refused, Memory}
use Rattle.round_gates.specs.declared.tree.Input.{Input}
use Rattle.round_gates.specs.declared.tree.Input.TheVariants as inputs
use Rattle.round_gates.specs.declared.tree.Tree.{Tree}
use Rattle.round_gates.specs.Staged.{IsConstant}
use Rattle.round_gates.specs.Trees.{InputsOnce, LeadsTo, NamesRise, events_in, has_gate, key_of}
use Rattle.round_gates.specs.Targets.{HasLargeTree}

-- an input is one of so many events, or one of so many gates
abbrev pub IsWithin : ℕ → ℕ → Input → Type 0
IsWithin events gates (inputs.Event n) = n < events
IsWithin events gates (inputs.Gate n) = n < gates

-- how many inputs a gate may have: `and` at least two, `or` at least one, and a gate that counts more than it asks for, which
-- is at least two
abbrev pub MayHave : GateKind → ℕ → Type 0
MayHave And count = 2 ≤ count
MayHave Or count = 1 ≤ count
MayHave (AtLeast k) count = (2 ≤ k) × (k < count)

-- A gate of a tree of so many gates: its fact is one of the system, each input is an event of the system or a gate of the
-- tree, and no input comes twice.
pub record IsWellMadeGate (system : System) (gates : ℕ) (gate : Gate) : Type 0 where
  pub fact_in : gate.fact < length system.facts
  pub short_stage : gate.stage < 2 ^ 32
  pub short_place : gate.place < 2 ^ 32
  pub inputs_in : AllByRecursion (IsWithin (length system.events) gates) gate.inputs
  pub inputs_once : InputsOnce gate.inputs
  pub few_inputs : length gate.inputs < 2 ^ 32
  pub count : MayHave gate.kind (length gate.inputs)

-- A tree: its top is one of its gates, which rise by fact, stage and place, so that no two of them have one name; none of them
-- leads back to itself; and its events are those that are inputs, rising.
pub record IsWellMade (system : System) (tree : Tree) : Type 0 where
  pub top_in : tree.top < length tree.gates
  pub gates : AllByRecursion (IsWellMadeGate system (length tree.gates)) tree.gates
  pub rise : NamesRise (map key_of tree.gates)
  pub acyclic : (n m : ℕ) (gate : Gate) → slice_get tree.gates n ≡ Some gate → has_gate gate.inputs m ≡ true → LeadsTo tree.gates m n → ⊥
  pub events : tree.events ≡ events_in (length system.events) tree.gates

-- Why a target has no tree: it is constant, or the tree may be too large; want of memory says nothing.
abbrev pub HasNoTree : System → ℕ → GateAnswer → Type 0
HasNoTree system target (Constant is) = IsConstant system target is
HasNoTree system target (Refused refusal) = HasLargeTree system target refusal
HasNoTree system target Memory = Unit {0}
