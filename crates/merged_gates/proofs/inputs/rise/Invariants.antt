use Rattle.std.proofs.Common.{◌≡◌, None, drop}
use Rattle.merged_gates.specs.inner.Tests.{rises_from}
use Rattle.merged_gates.proofs.inputs.rise.Given as goal

abbrev pub invariant-loop-input : goal.invariant-loop-input
invariant-loop-input l = rises_from l.last (drop l.input-index l.inputs) ≡ rises_from None l.inputs
