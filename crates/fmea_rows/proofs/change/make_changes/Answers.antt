use Rattle.fmea_rows.specs.declared.change.Change.{Change}
use Rattle.fmea_rows.proofs.TableLaws.{made-next}
use Rattle.fmea_rows.proofs.change.make_changes.Goals as goal

pub loop-change-preserved : goal.loop-change-preserved
loop-change-preserved c =
    let d : Change = record { fact = 0; time = 0 } in
    made-next c.args.times.now c.loop-change.times c.put_time.new.times c.args.changes.now c.loop-change.change-index d c.loop-change-test.true c.loop-change.invariant c.put_time.ensures
