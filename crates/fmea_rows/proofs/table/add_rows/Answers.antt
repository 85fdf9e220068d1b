use Rattle.std.proofs.Common.{◌++◌, ◌∙◌, List, ap, append-nil, sym, subst, ⊎_elim}
use Rattle.fmea_rows.specs.declared.row.Row.{Row}
use Rattle.fmea_rows.specs.inner.Columns.{AreColumns, AreToldAt, column_rows}
use Rattle.fmea_rows.specs.declared.columns.Column.{Column}
use Rattle.fmea_rows.proofs.ColumnLaws.{told-rows}
use Rattle.fmea_rows.proofs.FeltLaws.{no-rows}
use Rattle.fmea_rows.proofs.table.add_rows.Goals as goal

pub returns-then-not-is_felt-clause-rows : goal.returns-then-not-is_felt-clause-rows
returns-then-not-is_felt-clause-rows c =
    sym (append-nil c.args.rows.now) ∙ ap (λ (rows : List Row). c.args.rows.now ++ rows)
    (sym (no-rows c.args.asked.now.system.now c.args.asked.now.effects.now c.args.known.now.reach c.requires.known.reach_is c.args.event (sym c.is_felt.ensures ∙ c.if-not-is_felt.true)))

pub returns-then-has-clause-rows : goal.returns-then-has-clause-rows
returns-then-has-clause-rows c =
    sym (append-nil c.args.rows.now) ∙ ap (λ (rows : List Row). c.args.rows.now ++ rows)
    (sym (c.requires.passed c.args.event (sym c.has.ensures ∙ c.if-has.true)))

pub returns-then-are_told-clause-rows : goal.returns-then-are_told-clause-rows
returns-then-are_told-clause-rows c =
    let system = c.args.asked.now.system.now in
    let effects = c.args.asked.now.effects.now in
    let base = c.args.known.now.base in
    let columns : List Column = c.args.told.now.columns.items in
    let told : AreToldAt c.args.event columns = subst (AreToldAt c.args.event) c.as_slice-columns.ensures.value (c.are_told.ensures c.if-are_told.true) in
    let are : AreColumns system effects columns = ⊎_elim (λ none. absurd (told.some none)) (λ some. some) c.requires.told in
    c.in_ok-add_told.ensures ∙ (λ i. c.args.rows.now ++ column_rows (c.items.ensures.items i) c.args.event (c.as_slice-columns.ensures.value i))
    ∙ ap (λ rows. c.args.rows.now ++ rows) (told-rows system c.args.event base c.requires.known.base c.requires.event effects columns are told.each)
