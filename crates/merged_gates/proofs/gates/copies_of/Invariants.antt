use Rattle.std.proofs.Common.{◌≡◌, take}
use Rattle.merged_gates.proofs.gates.copies_of.Given as goal

abbrev pub invariant-loop-gate : goal.invariant-loop-gate
invariant-loop-gate l = l.copies.items ≡ take l.gate-index l.gates
