use Rattle.merged_gates.proofs.merging.turn.Goals as goal

pub returns : goal.returns
returns c = λ events set agrees. let a = c.in_ok-next.ensures events set agrees in (c.in_ok-more.ensures events set a.0, a.1)
