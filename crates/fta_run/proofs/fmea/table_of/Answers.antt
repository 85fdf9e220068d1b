use Rattle.std.proofs.Common.{◌∙◌, ap}
use Rattle.fmea_rows.specs.Rows.{rows_of}
use Rattle.fmea_rows.specs.Text.{table_text}
use Rattle.fta_run.proofs.fmea.table_of.Goals as goal

pub returns : goal.returns
returns c =
    let system = c.args.model.system in
    let rows = c.in_ok-rows.ensures.rows ∙ ap (rows_of system) (c.items.ensures.items ∙ c.in_ok-effects.ensures.effects) in
    record { passed = c.new.ensures ∙ ap (table_text system c.args.model.rates) rows }
