use Rattle.backward_slice.proofs.Rising.{NumbersBelow}
use Rattle.backward_slice.proofs.slicing.numbers.Given as goal

abbrev pub invariant-loop-number : goal.invariant-loop-number
invariant-loop-number l = NumbersBelow l.set l.number l.list
