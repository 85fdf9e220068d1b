use Rattle.std.proofs.Common.{ap, ◌∙◌}
use Rattle.noted_refusals.specs.inner.Noted.{noting}
use Rattle.noted_refusals.proofs.Loops.{noting-more}
use Rattle.error_machines.specs.States.{event_refusals}
use Rattle.error_behavior.proofs.events.note_clause_events.Goals as goal

pub loop-event-preserved : goal.loop-event-preserved
loop-event-preserved c =
    noting-more c.args.events.now c.loop-event.event-index c.event-item.result c.loop-event-test.true c.event-item.is (λ scoped. event_refusals c.args.profile scoped.item) c.loop-event.refusals _ _ (c.note_event.ensures ∙ ap (λ item. noting c.loop-event.refusals (event_refusals c.args.profile item)) c.item.ensures) c.loop-event.invariant
