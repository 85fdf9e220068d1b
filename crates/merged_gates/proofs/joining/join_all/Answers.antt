use Rattle.merged_gates.proofs.joining.join_all.Goals as goal

pub loop-n-preserved : goal.loop-n-preserved
loop-n-preserved c = λ events set agrees. c.in_ok-join_gate.ensures events set (c.loop-n.invariant events set agrees)
