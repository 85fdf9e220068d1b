use Rattle.std.proofs.Common.{◌≡◌, IfOk, fold, map, subst, ◌∙◌}
use Rattle.error_machines.specs.States.{clause_event, keep_event}
use Rattle.error_behavior.proofs.EventLaws.{events-joined}
use Rattle.error_behavior.proofs.events.events_of.Goals as goal

pub returns-clause-events : goal.returns-clause-events
returns-clause-events c =
    let table = c.args.types.now in
    let all =
    (λ i. fold (keep_event (c.in_ok-events.ensures.kept i)) (c.in_ok-events.ensures.events i) (map (clause_event (c.requires i).clauses) (c.items.ensures.items i))) ∙ events-joined table c.args.machine.now c.args.effective.now in
    subst (λ events. IfOk c.with_clauses.result (λ made. made ≡ events)) all c.with_clauses.ensures.events
