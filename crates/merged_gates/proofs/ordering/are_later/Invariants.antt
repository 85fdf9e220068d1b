use Rattle.std.proofs.Common.{take}
use Rattle.std.specs.List.{AllByRecursion}
use Rattle.merged_gates.specs.inner.Tests.{IsLater}
use Rattle.merged_gates.proofs.ordering.are_later.Given as goal

abbrev pub invariant-loop-input : goal.invariant-loop-input
invariant-loop-input l = AllByRecursion (IsLater l.ranks l.own) (take l.input-index l.inputs)
