-- Beside specs/GateSystems.antt: what no clause of `run` reaches.
use Rattle.std.specs.Prelude.{ℕ}
use Rattle.fault_system.specs.Truth.{NumberSet, Has}
use Rattle.round_gates.specs.declared.tree.Tree.{Tree}
use Rattle.round_gates.specs.inner.Trees.{IsClosedTree}

-- the gate at a position is true under a set of events if each set of positions has it that has each gate which is true under the
-- events and the set; of the top this is the truth of the tree
abbrev pub GateHolds : Tree → NumberSet → ℕ → Type 0
GateHolds tree events n = (set : NumberSet) → IsClosedTree tree.gates events set → Has set n
