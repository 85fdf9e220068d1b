use Rattle.std.proofs.Common.{◌≡◌, map, take}
use Rattle.dot_writer.specs.TreePicture.{head_at}
use Rattle.dot_writer.proofs.parts.twice.Given as goal

abbrev pub invariant-loop-head : goal.invariant-loop-head
invariant-loop-head l = l.made ≡ map (head_at l.heads) (take l.head-index l.heads)
