use Rattle.model_review.proofs.Adding.{numbered-end, numbered-step}
use Rattle.model_review.proofs.walks.add_of_points.Goals as goal

pub loop-number-preserved : goal.loop-number-preserved
loop-number-preserved g c =
    numbered-step (g.P.PointFinding.finding c.args.told.now c.args.view.now c.args.owner) c.args.points.now c.loop-number.number c.args.found.now c.loop-number.found c.loop-number.invariant c.index-points-number.result c.loop-number-test.true c.index-points-number.is c.tell.new.found c.in_ok-tell.ensures

pub returns : goal.returns
returns g c =
    numbered-end (g.P.PointFinding.finding c.args.told.now c.args.view.now c.args.owner) c.args.points.now c.loop-number.number c.args.found.now c.loop-number.found c.loop-number.invariant c.loop-number-test.false
