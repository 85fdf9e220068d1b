use Rattle.std.proofs.Common.{ap, ◌∙◌}
use Rattle.noted_refusals.specs.inner.Noted.{noting}
use Rattle.package_index.specs.Names.{only}
use Rattle.noted_refusals.proofs.Loops.{noting-more}
use Rattle.propagation_points.specs.Points.{fault_at, propagation_refusals}
use Rattle.propagation_points.proofs.points.note_propagations.Goals as goal

pub loop-propagation-preserved : goal.loop-propagation-preserved
loop-propagation-preserved c =
    noting-more c.args.propagations.now c.loop-propagation.propagation-index c.propagation-item.result c.loop-propagation-test.true c.propagation-item.is (propagation_refusals c.args.points.now) c.loop-propagation.refusals _ _
    (c.note_propagation.ensures ∙ ap (λ item. noting c.loop-propagation.refusals (fault_at c.args.points.now item.point (only item.point.names))) c.item.ensures) c.loop-propagation.invariant
