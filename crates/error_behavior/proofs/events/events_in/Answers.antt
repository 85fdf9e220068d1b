use Rattle.std.proofs.Common.{◌+◌, take, option_copied, sym, ap, ◌∙◌}
use Rattle.std.proofs.lemmas.List.Folds.{fold-map}
use Rattle.aadl_syntax.specs.declared.error_model.EventDecl.{EventDecl}
use Rattle.package_index.proofs.Loops.{fold-more}
use Rattle.error_machines.specs.declared.states.Events.{Events}
use Rattle.error_machines.specs.States.{event_at, keep_event, no_events}
use Rattle.error_behavior.proofs.events.events_in.Goals as goal

pub loop-decl-preserved : goal.loop-decl-preserved
loop-decl-preserved c =
    let table = c.args.types.now in
    let scope = option_copied c.args.scope in
    let decls = c.args.decls.now in
    let index = c.loop-decl.decl-index in
    let one = c.decl-item.result in
    let step : Events → EventDecl → Events = λ events decl. keep_event table events (event_at scope decl) in
    record {
      kept = c.with_event.ensures.kept ∙ c.loop-decl.invariant.kept;
      events = fold-more step no_events c.loop-decl.events c.in_ok-events.events decls index one c.loop-decl-test.true c.decl-item.is
          (c.loop-decl.invariant.events ∙ fold-map (keep_event table) (event_at scope) no_events (take index decls))
          (c.in_ok-events.ensures.events ∙ ap (λ types. keep_event types c.loop-decl.events (event_at scope one)) c.loop-decl.invariant.kept)
          ∙ sym (fold-map (keep_event table) (event_at scope) no_events (take (index + 1) decls));
    }
