use Rattle.std.proofs.Common.{map}
use Rattle.std.proofs.lemmas.Result.{err_from_is_err_and}
use Rattle.plain_values.specs.declared.refusal.Code.TheVariants.{TooManyFacts}
use Rattle.model_facts.specs.Facts.{fact_in, point_facts}
use Rattle.model_facts.specs.Limits.{most_facts}
use Rattle.model_facts.proofs.StepLaws.{exceeds-numbered, grows-numbered}
use Rattle.model_facts.proofs.fact_list.add_points.Goals as goal

pub returns-in_err-add_point : goal.returns-in_err-add_point
returns-in_err-add_point c =
    let p = err_from_is_err_and c.from_residual.result c.from_residual.ensures.1 in
    rw (p.1, p.2)
    (exceeds-numbered most_facts TooManyFacts (λ number point. map (fact_in c.args.owner) (point_facts c.args.universe.now number point)) c.args.points.now c.loop-number.number c.index-points-number.result c.loop-number-test.true c.index-points-number.is c.args.facts.now c.loop-number.facts c.loop-number.invariant c.in_err-add_point.field-0.0 c.in_err-add_point.ensures)

pub loop-number-preserved : goal.loop-number-preserved
loop-number-preserved c =
    grows-numbered most_facts TooManyFacts (λ number point. map (fact_in c.args.owner) (point_facts c.args.universe.now number point)) c.args.points.now c.loop-number.number c.index-points-number.result c.loop-number-test.true c.index-points-number.is c.args.facts.now c.loop-number.facts c.loop-number.invariant c.add_point.new.facts c.in_ok-add_point.ensures
