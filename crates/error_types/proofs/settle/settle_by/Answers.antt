use Rattle.std.proofs.Common.{◌+◌, ◌<◌, ◌^◌, slice_get, refl, sym, ◌∙◌, arith}
use Rattle.std.specs.Prelude.{option_copied}
use Rattle.plain_values.specs.Order.{nearer}
use Rattle.error_types.proofs.SettleLaws.{settled-other, settled-type}
use Rattle.error_types.proofs.settle.settle_by.Goals as goal
use Rattle.error_types.proofs.settle.settle_by.Goals.{then-is_type_item, else-is_type_item+in_ok-row}

pub remember-requires-clause-reached : goal.remember-requires-clause-reached
remember-requires-clause-reached c =
    let table = c.args.declarations.now in
    let sum = c.args.sum in
    let item = option_copied c.args.item in
    let few : sum.depth + 1 < 2 ^ 32 = (let less = c.requires.sum.few in omega (arith, less, c.if-depth.false)) in
    let first = c.noted-2.ensures ∙ c.note_some.ensures ∙ (λ i. nearer (c.products_of-first.ensures i) (c.noted.ensures i)) in
    elim c.if-is_type_item.branch [
      | then-is_type_item w ↦ settled-type table c.args.id sum item c.requires.item c.requires.sum few c.if-is_type_item.memory.rows _ (sym c.is_type_item.ensures ∙ w.if-is_type_item.true) ((λ i. slice_get (w.memory-is i).rows (w.row2-is i)) ∙ c.requires.own) first refl
      | else-is_type_item+in_ok-row w ↦ settled-other table c.args.id sum item c.requires.item c.requires.sum few c.if-is_type_item.memory.rows _ (sym c.is_type_item.ensures ∙ w.if-is_type_item.false) ((λ i. slice_get (w.memory-is i).rows (w.row2-is i)) ∙ w.in_ok-row.ensures.row) first refl
    ]
