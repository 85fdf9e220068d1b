use Rattle.std.proofs.Common.{◌+◌, sym, subst, take}
use Rattle.fmea_rows.specs.inner.Columns.{AreColumns}
use Rattle.fmea_rows.proofs.ColumnLaws.{columns-next}
use Rattle.fmea_rows.proofs.told.columns_of.Goals as goal

pub loop-effect-preserved : goal.loop-effect-preserved
loop-effect-preserved c =
    let system = c.args.asked.now.system.now in
    let effects = c.args.asked.now.effects.now in
    let i = c.loop-effect.effect-index in
    subst (AreColumns system (take (i + 1) effects)) (sym c.in_ok-push.ensures.items)
    (columns-next system effects i 0 c.loop-effect.columns.items c.in_ok-of.field-0 c.loop-effect-test.true c.loop-effect.invariant c.in_ok-of.ensures)
