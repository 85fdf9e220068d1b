use Rattle.std.proofs.lemmas.Result.{err_from_is_err_and}
use Rattle.plain_values.specs.declared.refusal.Code.TheVariants.{TooManyEvents}
use Rattle.model_facts.specs.Facts.{event_in}
use Rattle.model_facts.specs.declared.keys.EventKind.TheVariants.{Declared}
use Rattle.model_facts.specs.Limits.{most_events}
use Rattle.model_facts.proofs.StepLaws.{exceeds-below}
use Rattle.model_facts.proofs.event_list.add_declared.Goals as goal

pub returns-in_err-add_event : goal.returns-in_err-add_event
returns-in_err-add_event c =
    let p = err_from_is_err_and c.from_residual.result c.from_residual.ensures.1 in
    rw (p.1, p.2)
    (exceeds-below most_events TooManyEvents (λ event. event_in c.args.owner (Declared event)) c.args.count c.loop-event.event c.loop-event-test.true c.args.events.now c.loop-event.events c.loop-event.invariant c.in_err-add_event.field-0.0 c.in_err-add_event.ensures)
