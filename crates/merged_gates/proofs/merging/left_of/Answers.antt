use Rattle.std.proofs.Common.{◌∙◌}
use Rattle.std.proofs.lemmas.List.{with_items_is}
use Rattle.merged_gates.proofs.Folds.{keeps-moved}
use Rattle.merged_gates.proofs.merging.left_of.Goals as goal

pub returns-clause-top : goal.returns-clause-top
returns-clause-top c =
    let back = with_items_is c.in_ok-gates.gates c.merge_all.new.gates (c.merge_all.auto.gates ∙ c.as_mut_slice.ensures.len) in
    keeps-moved _ _ _ _ _ _ (c.as_mut_slice.ensures.value ∙ c.in_ok-gates.ensures ∙ c.items.ensures.items) back c.in_ok-top.ensures
