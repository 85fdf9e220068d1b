use Rattle.std.proofs.Common.{arith}
use Rattle.cut_reports.proofs.Places.{rises_at}
use Rattle.cut_reports.proofs.UseLaws.{counted_next}
use Rattle.cut_reports.proofs.uses.count_each.Goals as goal

pub count_up-requires : goal.count_up-requires
count_up-requires c = omega (arith, (rises_at 0 _ c.args.set.now c.loop-event.event-index 0 c.requires c.loop-event-test.true).1, c.loop-event.invariant.count)

pub loop-event-preserved : goal.loop-event-preserved
loop-event-preserved c = record {
  counted = counted_next _ c.args.set.now c.loop-event.event-index 0 _ _ _ c.requires c.loop-event-test.true c.loop-event.invariant.counted c.count_up.ensures.counted;
  count = omega (arith, c.loop-event.invariant.count, c.count_up.ensures.count);
}
