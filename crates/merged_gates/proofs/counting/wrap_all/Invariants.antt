use Rattle.merged_gates.specs.inner.Solutions.{Keeps}
use Rattle.merged_gates.proofs.counting.wrap_all.Given as goal

abbrev pub invariant-loop-n : goal.invariant-loop-n
invariant-loop-n l = Keeps l.fn.gates l.stands l.gates l.stands
