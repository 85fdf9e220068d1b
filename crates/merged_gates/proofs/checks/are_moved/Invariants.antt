use Rattle.std.proofs.Common.{◌≡◌, map, take}
use Rattle.merged_gates.specs.inner.Tests.{moved}
use Rattle.merged_gates.proofs.checks.are_moved.Given as goal

abbrev pub invariant-loop-i : goal.invariant-loop-i
invariant-loop-i l = map (moved l.from) (take l.i l.inputs) ≡ take l.i l.old
