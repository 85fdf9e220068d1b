use Rattle.std.proofs.Common.{inr, ⊎_elim}
use Rattle.std.proofs.lemmas.List.Folds.{list_any_at}
use Rattle.round_gates.specs.declared.tree.Input.TheVariants as inputs
use Rattle.round_gates.specs.Trees.{is_gate}
use Rattle.merged_gates.proofs.parents.note_parents.Goals as goal

pub loop-input-preserved : goal.loop-input-preserved
loop-input-preserved c = λ m p at.
    ⊎_elim (λ before. c.loop-input.invariant m p before)
    (λ own. inr (own.0, list_any_at (is_gate m) c.args.inputs.now c.loop-input.input-index (inputs.Event 0) c.loop-input-test.true own.1)) (c.note_parent.ensures m p at)
