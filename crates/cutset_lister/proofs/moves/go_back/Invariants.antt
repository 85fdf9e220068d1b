use Rattle.std.proofs.Common.{length}
use Rattle.cutset_lister.specs.inner.Trails.{SameLeft}
use Rattle.cutset_lister.proofs.moves.go_back.Given as goal

abbrev pub invariant-loop-path : goal.invariant-loop-path
invariant-loop-path l = SameLeft l.fn.path l.path l.fn.family l.id

abbrev pub decreases-loop-path : goal.decreases-loop-path
decreases-loop-path l = length l.path.frames
