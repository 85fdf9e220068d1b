use Rattle.std.proofs.Common.{◌≡◌, map, take}
use Rattle.merged_gates.specs.inner.Solutions.{stand_of}
use Rattle.merged_gates.proofs.gates.stands_for.Given as goal

abbrev pub invariant-loop-input : goal.invariant-loop-input
invariant-loop-input l = l.list.items ≡ map (stand_of l.stands) (take l.input-index l.inputs)
