use Rattle.std.proofs.Common.{map}
use Rattle.std.proofs.lemmas.Result.{err_from_is_err_and}
use Rattle.plain_values.specs.declared.refusal.Code.TheVariants.{TooManyEvents}
use Rattle.model_facts.specs.Facts.{arrivals, event_in}
use Rattle.model_facts.specs.Limits.{most_events}
use Rattle.model_facts.proofs.StepLaws.{exceeds-numbered, grows-numbered}
use Rattle.model_facts.proofs.event_list.add_points.Goals as goal

pub returns-in_err-add_point : goal.returns-in_err-add_point
returns-in_err-add_point c =
    let p = err_from_is_err_and c.from_residual.result c.from_residual.ensures.1 in
    rw (p.1, p.2)
    (exceeds-numbered most_events TooManyEvents (λ number point. map (event_in c.args.owner) (arrivals c.args.linked.now c.args.owner number point)) c.args.points.now c.loop-number.number c.index-points-number.result c.loop-number-test.true c.index-points-number.is c.args.events.now c.loop-number.events c.loop-number.invariant c.in_err-add_point.field-0.0 c.in_err-add_point.ensures)

pub loop-number-preserved : goal.loop-number-preserved
loop-number-preserved c =
    grows-numbered most_events TooManyEvents (λ number point. map (event_in c.args.owner) (arrivals c.args.linked.now c.args.owner number point)) c.args.points.now c.loop-number.number c.index-points-number.result c.loop-number-test.true c.index-points-number.is c.args.events.now c.loop-number.events c.loop-number.invariant c.add_point.new.events c.in_ok-add_point.ensures
