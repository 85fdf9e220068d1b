use Rattle.merged_gates.specs.inner.Solutions.{Keeps}
use Rattle.merged_gates.proofs.folding.fold_all.Given as goal

abbrev pub invariant-loop-done : goal.invariant-loop-done
invariant-loop-done l = Keeps l.fn.gates l.fn.stands l.gates l.stands
