use Rattle.std.proofs.Common.{take}
use Rattle.std.specs.List.{AllByRecursion}
use Rattle.round_gates.specs.inner.Targets.{IsWithin}
use Rattle.merged_gates.proofs.checks.are_within.Given as goal

abbrev pub invariant-loop-input : goal.invariant-loop-input
invariant-loop-input l = AllByRecursion (IsWithin l.events l.gates) (take l.input-index l.inputs)
