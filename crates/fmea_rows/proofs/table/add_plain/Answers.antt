use Rattle.std.proofs.Common.{◌++◌, ◌∙◌, ap, subst}
use Rattle.fault_system.specs.Truth.{NumberSet}
use Rattle.fault_system.specs.Rounds.{AreRounds, no_event, only}
use Rattle.fault_system.proofs.RoundLaws.{table-rounds}
use Rattle.fmea_rows.specs.inner.Tables.{table_rows}
use Rattle.fmea_rows.proofs.TableLaws.{table-rows}
use Rattle.fmea_rows.proofs.table.add_plain.Goals as goal

pub returns : goal.returns
returns c =
    let system = c.args.asked.now.system.now in
    let base = c.args.known.now.base in
    let times = c.in_ok-times.times in
    let alone : AreRounds system (only c.args.event) times = subst (λ (events : NumberSet). AreRounds system events times) c.requires.alone c.in_ok-times.ensures in
    c.in_ok-add_reached.ensures ∙ (λ i. c.args.rows.now ++ table_rows (c.items.ensures.items i) (c.items-2.ensures.items i) c.args.event c.args.asked.now.effects.now)
    ∙ ap (λ rows. c.args.rows.now ++ rows) (table-rows system c.args.event base times c.args.asked.now.effects.now (λ n i. (table-rounds system no_event base c.requires.base).each n) (λ n i. alone.each n))
