use Rattle.std.proofs.Common.{refl, arith}
use Rattle.cut_reports.proofs.Adding.{joined_next, joined_none}
use Rattle.cut_reports.proofs.singles.mark_all.Goals as goal

pub loop-event-init : goal.loop-event-init
loop-event-init c = record { marked = joined_none _ _; count = refl }

pub loop-event-preserved : goal.loop-event-preserved
loop-event-preserved c = record {
  marked = joined_next c.loop-event.event _ c.args.more.now _ _ _ refl c.loop-event.invariant.marked c.mark_at.ensures.marked;
  count = omega (arith, c.loop-event.invariant.count, c.mark_at.ensures.count);
}

pub returns-clause-marked : goal.returns-clause-marked
returns-clause-marked c i h = c.loop-event.invariant.marked.done i (omega (arith, h, c.requires, c.args.marks.now.ok.0))
