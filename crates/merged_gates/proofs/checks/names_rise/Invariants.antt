use Rattle.std.proofs.Common.{ℕ, ◌<◌}
use Rattle.merged_gates.specs.inner.Tests.{RisesAt}
use Rattle.merged_gates.proofs.checks.names_rise.Given as goal

abbrev pub invariant-loop-n : goal.invariant-loop-n
invariant-loop-n l = (k : ℕ) → k < l.n → RisesAt l.gates k
