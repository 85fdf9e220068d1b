use Rattle.std.proofs.lemmas.Result.{IfOk-weaker}
use Rattle.backward_slice.proofs.Reached.{reach-is}
use Rattle.backward_slice.proofs.reaching.reach.Goals as goal

pub returns : goal.returns
returns c = IfOk-weaker c.reach_by.result _ _ (reach-is c.args.system.now c.args.from.now) c.reach_by.ensures
