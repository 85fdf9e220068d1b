use Rattle.cutset_lister.proofs.BySize.{SizesSoFar}
use Rattle.cutset_lister.proofs.parts.parts_by_size.Given as goal

abbrev pub invariant-loop-size : goal.invariant-loop-size
invariant-loop-size l = SizesSoFar l.fn.store l.store l.family l.size l.parts.items
