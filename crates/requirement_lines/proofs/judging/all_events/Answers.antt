use Rattle.std.proofs.Common.{◌∙◌, arith}
use Rattle.requirement_lines.proofs.Facts.{marked-more}
use Rattle.requirement_lines.proofs.judging.all_events.Goals as goal

pub loop-event-preserved : goal.loop-event-preserved
loop-event-preserved c = marked-more c.loop-event.events c.put.new.self c.loop-event.event c.events-count.result c.put.ensures c.loop-event-test.true c.loop-event.invariant

pub returns-clause-size : goal.returns-clause-size
returns-clause-size c = c.loop-event.invariant.0 ∙ c.events-count.ensures.count

pub returns-clause-all : goal.returns-clause-all
returns-clause-all c = λ n less.
    let past = c.loop-event-test.false in
    let count = c.events-count.ensures.count in
    c.loop-event.invariant.1 n (omega (arith, less, past, count))
