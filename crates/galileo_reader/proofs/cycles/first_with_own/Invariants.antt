use Rattle.galileo_reader.specs.inner.Cycles.{NoneHasOwn}
use Rattle.galileo_reader.proofs.cycles.first_with_own.Given as goal

abbrev pub invariant-loop-i : goal.invariant-loop-i
invariant-loop-i l = NoneHasOwn l.blocks l.gates l.i
