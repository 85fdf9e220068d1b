use Rattle.std.proofs.Common.{[], ◌∷◌, ◌++◌, false, replicate, sym, ◌∙◌}
use Rattle.error_types.proofs.WalkedRows.{row-more}
use Rattle.error_types.proofs.hierarchy.empty_rows.Goals as goal

pub loop-preserved : goal.loop-preserved
loop-preserved c =
    c.in_ok-push.ensures.items ∙ (λ i. c.loop.invariant i ++ c.in_ok-row.ensures i ∷ []) ∙ sym (row-more (λ _. replicate c.args.count false) c.loop.counter)
