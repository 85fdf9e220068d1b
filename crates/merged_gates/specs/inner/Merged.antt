-- Beside specs/Merged.antt: when the gates of a merged tree are true.
use Rattle.std.specs.Prelude.{ℕ, ◌≡◌, ◌↔◌, List, slice_get, Some}
use Rattle.fault_system.specs.Truth.{NumberSet, Has}
use Rattle.round_gates.specs.declared.tree.Gate.{Gate}
use Rattle.round_gates.specs.declared.tree.Tree.{Tree}
use Rattle.round_gates.specs.Trees.{key_of}
use Rattle.round_gates.specs.inner.Trees.{IsClosedTree}
use Rattle.merged_gates.specs.Merged.{HasKindOf}

-- the gate at a position is true under a set of events: each set of positions that has every gate that is true has it
abbrev pub GateHolds : List Gate → NumberSet → ℕ → Type 0
GateHolds gates events n = (set : NumberSet) → IsClosedTree gates events set → Has set n

-- A gate of a merged tree is a gate of the written tree: it has its name and its kind, and it is true where that gate is.
pub record StaysFrom (written merged : Tree) (n : ℕ) (gate : Gate) : Type 0 where
  pub place : ℕ
  pub source : Gate
  pub at : slice_get written.gates place ≡ Some source
  pub key : key_of gate ≡ key_of source
  pub kind : HasKindOf gate source
  pub truth : (events : NumberSet) → GateHolds merged.gates events n ↔ GateHolds written.gates events place

-- each gate of a merged tree stays from the written one
abbrev pub AllStay : Tree → Tree → Type 0
AllStay written merged = (n : ℕ) (gate : Gate) → slice_get merged.gates n ≡ Some gate → StaysFrom written merged n gate
