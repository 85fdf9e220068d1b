use Rattle.std.proofs.Common.{◌≡◌, drop}
use Rattle.merged_gates.specs.Merged.{has_input}
use Rattle.merged_gates.proofs.parents.has_input.Given as goal

abbrev pub invariant-loop-other : goal.invariant-loop-other
invariant-loop-other l = has_input (drop l.other-index l.inputs) l.input ≡ has_input l.inputs l.input
