use Rattle.std.proofs.Common.{ℕ, ◌≡◌, ◌<◌, Some, slice_get}
use Rattle.std.specs.List.{AllByRecursion}
use Rattle.round_gates.specs.declared.tree.Gate.{Gate}
use Rattle.merged_gates.specs.inner.Tests.{IsLater, number_at}
use Rattle.merged_gates.proofs.ordering.all_later.Given as goal

abbrev pub invariant-loop-n : goal.invariant-loop-n
invariant-loop-n l = (k : ℕ) → k < l.n → (gate : Gate) → slice_get l.gates k ≡ Some gate → AllByRecursion (IsLater l.ranks (number_at l.ranks k)) gate.inputs
