use Rattle.std.proofs.Common.{◌≡◌, slice_get, option_copied, ap, ◌∙◌}
use Rattle.propagation_points.proofs.PlaceLaws.{mapped-more}
use Rattle.error_machines.specs.States.{clause_event, event_at, keep_event}
use Rattle.error_behavior.proofs.events.with_clauses.Goals as goal

pub loop-decl-preserved : goal.loop-decl-preserved
loop-decl-preserved c =
    let table = c.args.types.now in
    let clauses = c.args.texts.now.clauses in
    let one = c.decl-item.result in
    let kept : c.loop-decl.types ≡ table = c.loop-decl.invariant.kept in
    let scope : option_copied c.clause_scope-scope.result ≡ slice_get clauses one.scope = c.clause_scope-scope.ensures ∙ ap (slice_get clauses) c.scope.ensures in
    record {
      kept = c.with_event.ensures.kept ∙ kept;
      events = mapped-more (keep_event table) (clause_event clauses) c.args.before c.loop-decl.events c.in_ok-events.events c.args.decls.now c.loop-decl.decl-index one c.loop-decl-test.true c.decl-item.is
          c.loop-decl.invariant.events
          (c.in_ok-events.ensures.events ∙ (λ i. keep_event (kept i) c.loop-decl.events (event_at (scope i) (c.item.ensures i))));
    }
