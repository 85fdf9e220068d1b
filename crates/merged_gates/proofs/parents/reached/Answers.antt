use Rattle.merged_gates.proofs.parents.reached.Goals as goal

pub loop-n-preserved : goal.loop-n-preserved
loop-n-preserved c = c.mark_from.ensures c.args.top c.loop-n.invariant
