use Rattle.std.proofs.Common.{◌-◌, length}
use Rattle.cutset_lister.proofs.Below.{Descending}
use Rattle.cutset_lister.proofs.moves.descend.Given as goal

abbrev pub invariant-loop-node : goal.invariant-loop-node
invariant-loop-node g l = Descending l.store l.fn.path l.path l.fn.family l.id l.fn.steps l.steps

abbrev pub decreases-loop-node : goal.decreases-loop-node
decreases-loop-node g l = l.path.room - length l.path.frames
