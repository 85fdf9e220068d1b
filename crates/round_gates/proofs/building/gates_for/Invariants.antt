use Rattle.std.proofs.Common.{◌≡◌, map, take}
use Rattle.round_gates.specs.inner.Trees.{gate_for}
use Rattle.round_gates.proofs.building.gates_for.Given as goal

abbrev pub invariant-loop-key : goal.invariant-loop-key
invariant-loop-key l = l.gates ≡ map (gate_for l.lines l.keys.keys) (take l.key-index l.keys.keys)
