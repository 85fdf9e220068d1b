use Rattle.merged_gates.proofs.merging.fold_with.Goals as goal

pub returns : goal.returns
returns c = λ events set solves. let after = c.in_ok-fold_all.ensures events set solves in (after.gates_met, c.top_after.ensures events set after.stands_met)
