use Rattle.std.proofs.Common.{[], ◌∷◌, ◌++◌, ◌∙◌}
use Rattle.std.proofs.lemmas.List.{with_items_is}
use Rattle.std.proofs.lemmas.Result.{IfOk-weaker}
use Rattle.error_types.proofs.WalkedRows.{begin-rows, end-rows}
use Rattle.error_types.proofs.hierarchy.rows_of.Goals as goal

pub put_all-requires-clause-empty : goal.put_all-requires-clause-empty
put_all-requires-clause-empty c = c.as_mut_slice.ensures.value ∙ begin-rows c.args.bases.now _ c.in_ok-rows.ensures

pub returns : goal.returns
returns c =
    let back = with_items_is c.in_ok-rows.rows c.put_all.new.rows (c.put_all.auto.rows ∙ c.as_mut_slice.ensures.len) in
    IfOk-weaker c.of.result _ _
    (λ rows is. is ∙ c.in_ok-push.ensures.items ∙ (λ i. (back ∙ c.put_all.ensures ∙ end-rows c.args.bases.now) i ++ c.in_ok-none.ensures i ∷ []))
    c.of.ensures.ok
