use Rattle.std.proofs.Common.{◌≡◌, ◌++◌, None, drop}
use Rattle.merged_gates.specs.inner.Solutions.{once_from}
use Rattle.merged_gates.proofs.inputs.once.Given as goal

abbrev pub invariant-loop-input : goal.invariant-loop-input
invariant-loop-input l = l.list ++ once_from l.last (drop l.input-index l.inputs) ≡ once_from None l.inputs
