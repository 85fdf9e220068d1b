use Rattle.std.proofs.Common.{◌≡◌, ◌++◌, map, take}
use Rattle.propagation_points.specs.Points.{feature_point}
use Rattle.propagation_points.proofs.open_point.add_features.Given as goal

abbrev pub invariant-loop-feature : goal.invariant-loop-feature
invariant-loop-feature l = l.points.items ≡ l.fn.points.items ++ map feature_point (take l.feature-index l.features)
