use Rattle.std.proofs.Common.{arith}
use Rattle.zdd_families.proofs.Tables.{half_next, half_end}
use Rattle.zdd_families.proofs.choice.next_row.Goals as goal

pub loop-above-preserved : goal.loop-above-preserved
loop-above-preserved c =
    half_next c.args.most c.args.store.now c.loop-above.store c.next_entry.new.store c.args.run.part c.args.run.times c.args.low c.args.high c.loop-above.above c.saturating_sub-below.result c.args.row.now c.loop-above.row (record { position = 0 }) c.in_ok-row.field-0
    c.requires.within (omega arith) (omega (arith, c.saturating_sub-below.ensures)) c.requires.part_is c.requires.row_is c.loop-above.invariant c.next_entry.ensures.kept c.in_ok-row.ensures.answer

pub returns-clause-next : goal.returns-clause-next
returns-clause-next c =
    half_end c.args.most c.args.store.now c.loop-above.store c.args.run.part c.args.run.times c.args.low c.args.high c.loop-above.above c.args.row.now c.loop-above.row (omega arith) c.loop-above.invariant
