use Rattle.std.proofs.Common.{rules}
use Rattle.cutset_lister.proofs.Below.{same-back}
use Rattle.cutset_lister.proofs.moves.go_back.Goals as goal

pub loop-path-preserved : goal.loop-path-preserved
loop-path-preserved c =
    same-back c.args.path.now c.loop-path.path c.pop.new.self c.args.family c.loop-path.id c.in-Some.frame c.loop-path.invariant (search rules) (rw c.in-Some.is at c.pop.ensures.frames) c.pop.ensures.room
