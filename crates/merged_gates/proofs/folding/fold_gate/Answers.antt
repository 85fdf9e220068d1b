use Rattle.merged_gates.proofs.Folds.{gate-folded}
use Rattle.merged_gates.proofs.folding.fold_gate.Goals as goal

pub returns : goal.returns
returns c =
    gate-folded c.args.gates.now c.fold_inputs.new.gates c.args.stands.now c.note.new.stands c.args.n c.stand_for-stand.result c.in_ok-fold_inputs.ensures c.stand_for-stand.ensures c.note.ensures
