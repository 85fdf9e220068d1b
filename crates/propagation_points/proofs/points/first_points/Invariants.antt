use Rattle.std.proofs.Common.{◌≡◌, [], fold, map, take}
use Rattle.propagation_points.specs.Points.{keep_first, with_sides}
use Rattle.propagation_points.proofs.points.first_points.Given as goal

abbrev pub invariant-loop-point : goal.invariant-loop-point
invariant-loop-point l = record {
  kept : l.types ≡ l.fn.types;
  points : l.points ≡ fold keep_first [] (map (with_sides l.fn.types l.declared.scopes l.declared.items) (take l.point-index l.open_points));
}
