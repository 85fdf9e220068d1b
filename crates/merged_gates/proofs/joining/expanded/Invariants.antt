use Rattle.std.proofs.Common.{◌≡◌, ◌++◌, map}
use Rattle.fault_system.specs.Truth.{NumberSet}
use Rattle.round_gates.specs.Truths.{kind_true}
use Rattle.round_gates.specs.inner.Trees.{input_true}
use Rattle.merged_gates.specs.inner.Solutions.{IsSolution}
use Rattle.merged_gates.proofs.joining.expanded.Given as goal

abbrev pub invariant-loop-step : goal.invariant-loop-step
invariant-loop-step l = (events set : NumberSet) → IsSolution events set l.gates → kind_true l.kind (map (input_true events set) (l.list.items ++ l.left.items)) ≡ kind_true l.kind (map (input_true events set) l.inputs)
