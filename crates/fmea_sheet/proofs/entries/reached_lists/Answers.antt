use Rattle.std.proofs.Common.{◌∙◌, ap, arith}
use Rattle.fmea_rows.specs.Rows.{rows_of}
use Rattle.fmea_sheet.specs.inner.Written.{effects_in}
use Rattle.fmea_sheet.proofs.RowEvents.{effects-reached}
use Rattle.fmea_sheet.proofs.entries.reached_lists.Goals as goal

pub returns : goal.returns
returns c =
    let model = c.args.model.now in
    λ event within.
    c.in_ok-lists.ensures event (omega (arith, within, c.events-count.ensures.count))
    ∙ ap (λ rows. effects_in rows event) (c.in_ok-rows.ensures.rows ∙ ap (rows_of model.system) c.items.ensures.items)
    ∙ effects-reached model.system model.effects event within
