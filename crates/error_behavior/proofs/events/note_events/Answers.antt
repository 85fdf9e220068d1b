use Rattle.noted_refusals.proofs.Loops.{noting-more}
use Rattle.error_machines.specs.States.{event_refusals}
use Rattle.error_behavior.proofs.events.note_events.Goals as goal

pub loop-decl-preserved : goal.loop-decl-preserved
loop-decl-preserved c =
    noting-more c.args.decls.now c.loop-decl.decl-index c.decl-item.result c.loop-decl-test.true c.decl-item.is (event_refusals c.args.profile) c.loop-decl.refusals _ _ (c.note_event.ensures) c.loop-decl.invariant
