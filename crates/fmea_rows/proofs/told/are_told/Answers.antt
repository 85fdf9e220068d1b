use Rattle.std.proofs.Common.{◌≤◌, ◌∙◌, All, List, get_or, length, take, sym, subst, arith}
use Rattle.std.proofs.lemmas.List.{take_all, take_more}
use Rattle.std.proofs.lemmas.List.Elements.{All-push}
use Rattle.fmea_rows.specs.inner.Columns.{IsToldAt}
use Rattle.fmea_rows.specs.declared.columns.Column.{Column}
use Rattle.fmea_rows.proofs.ColumnLaws.{some-columns}
use Rattle.fmea_rows.proofs.told.are_told.Goals as goal

pub loop-column-preserved : goal.loop-column-preserved
loop-column-preserved c =
    let columns : List Column = c.args.columns.now in
    let i = c.loop-column.column-index in
    let d : Column = c.column-item.result in
    let is : Column → Type 0 = λ (column : Column). IsToldAt column c.args.event in
    subst (All is) (sym (take_more columns i d c.loop-column-test.true)) (All-push is (take i columns) (get_or columns i d) c.loop-column.invariant (subst is c.column-item.is (c.is_told.ensures c.if-not-is_told.false)))

pub returns : goal.returns
returns c = λ yes.
    let columns : List Column = c.args.columns.now in
    let all : length columns ≤ c.loop-column.column-index = omega (arith, c.loop-column-test.false) in
    record {
      some = some-columns columns (sym c.is_empty.ensures ∙ c.if-is_empty.false);
      each = subst (All (λ (column : Column). IsToldAt column c.args.event)) (take_all c.loop-column.column-index columns all) c.loop-column.invariant;
    }
