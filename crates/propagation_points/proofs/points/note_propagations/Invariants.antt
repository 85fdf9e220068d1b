use Rattle.std.proofs.Common.{◌≡◌, drop, flat_map}
use Rattle.noted_refusals.specs.inner.Noted.{noting}
use Rattle.propagation_points.specs.Points.{propagation_refusals}
use Rattle.propagation_points.proofs.points.note_propagations.Given as goal

abbrev pub invariant-loop-propagation : goal.invariant-loop-propagation
invariant-loop-propagation l =
    noting l.refusals (flat_map (propagation_refusals l.points) (drop l.propagation-index l.propagations)) ≡ noting l.fn.refusals (flat_map (propagation_refusals l.points) l.propagations)
