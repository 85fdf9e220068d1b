use Rattle.fta_run.proofs.line.write_constant.Goals as goal

pub returns-then-always : goal.returns-then-always
returns-then-always g c = rw c.if-always.true c.write_piece.ensures
