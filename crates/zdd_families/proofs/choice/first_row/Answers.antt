use Rattle.std.proofs.Common.{◌≡◌, ◌+◌, ◌++◌, ◌∷◌, [], List, length, ap, ◌∙◌, sym, subst, arith, length-append}
use Rattle.zdd_store.specs.declared.id.Id.{Id}
use Rattle.zdd_families.specs.inner.Rows.{IsRow}
use Rattle.zdd_families.proofs.Tables.{row_start, row_none}
use Rattle.zdd_families.proofs.choice.first_row.Goals as goal

pub loop-filled-init : goal.loop-filled-init
loop-filled-init c =
    let items : c.push.new.self.items ≡ record { position = 1 } ∷ [] = c.in_ok-push.ensures.items ∙ ap (λ (xs : List Id). xs ++ record { position = 1 } ∷ []) c.new-row.ensures.items in
    record { long = ap length items; row = subst (IsRow 0 c.args.most c.args.store.now []) (sym items) (row_start c.args.most c.args.store.now c.laws.ensures) }

pub loop-filled-preserved : goal.loop-filled-preserved
loop-filled-preserved c =
    let items : c.push-in-loop-filled.new.self.items ≡ c.loop-filled.row.items ++ record { position = 0 } ∷ [] = c.in_ok-push-2.ensures.items in
    let long : length c.loop-filled.row.items ≡ c.loop-filled.filled + 1 = c.loop-filled.invariant.long in
    record {
      long = ap length items ∙ (omega (arith, length-append c.loop-filled.row.items (record { position = 0 } ∷ [])));
      row = subst (IsRow 0 c.args.most c.args.store.now []) (sym items) (row_none c.args.most c.args.store.now c.loop-filled.row.items c.laws.ensures (omega arith) c.loop-filled.invariant.row);
    }
