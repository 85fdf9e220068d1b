use Rattle.std.proofs.Common.{◌≡◌, ◌++◌, map, take}
use Rattle.propagation_points.specs.Points.{user_point}
use Rattle.propagation_points.proofs.open_point.add_user_points.Given as goal

abbrev pub invariant-loop-user_point : goal.invariant-loop-user_point
invariant-loop-user_point l = l.points.items ≡ l.fn.points.items ++ map user_point (take l.user_point-index l.user_points)
