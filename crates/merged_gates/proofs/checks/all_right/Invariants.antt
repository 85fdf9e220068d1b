use Rattle.std.proofs.Common.{ℕ, ◌≡◌, ◌<◌, Some, slice_get}
use Rattle.round_gates.specs.declared.tree.Gate.{Gate}
use Rattle.merged_gates.specs.inner.Tests.{IsRight}
use Rattle.merged_gates.proofs.checks.all_right.Given as goal

abbrev pub invariant-loop-n : goal.invariant-loop-n
invariant-loop-n l = (k : ℕ) → k < l.n → (gate : Gate) → slice_get l.merge.tree.now.gates k ≡ Some gate → IsRight l.merge.system.now l.merge.written.now l.merge.gates.now l.merge.from.now l.merge.tree.now k gate
