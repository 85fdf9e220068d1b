use Rattle.std.proofs.Common.{take}
use Rattle.std.specs.List.{AllByRecursion}
use Rattle.merged_gates.specs.inner.Tests.{StaysApart}
use Rattle.merged_gates.proofs.checks.are_apart.Given as goal

abbrev pub invariant-loop-input : goal.invariant-loop-input
invariant-loop-input l = AllByRecursion (StaysApart l.gates l.n l.kind) (take l.input-index l.inputs)
