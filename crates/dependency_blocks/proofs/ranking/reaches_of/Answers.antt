use Rattle.std.proofs.lemmas.Result.{IfOk-weaker}
use Rattle.dependency_blocks.proofs.Ranked.{have-reaches}
use Rattle.dependency_blocks.proofs.ranking.reaches_of.Goals as goal

pub returns : goal.returns
returns c =
    IfOk-weaker c.reaches_in.result _ _ (λ reaches found. have-reaches c.args.system.now c.args.facts.now c.in_ok-wanted.wanted reaches.items c.requires c.in_ok-wanted.ensures.numbers found.0 found.1) c.reaches_in.ensures
