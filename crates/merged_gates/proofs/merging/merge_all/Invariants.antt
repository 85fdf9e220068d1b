use Rattle.merged_gates.specs.inner.Solutions.{KeepsTop}
use Rattle.merged_gates.proofs.merging.merge_all.Given as goal

abbrev pub invariant-loop-turn : goal.invariant-loop-turn
invariant-loop-turn l = KeepsTop l.fn.gates l.top l.gates l.next
