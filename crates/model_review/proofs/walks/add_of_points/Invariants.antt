use Rattle.std.proofs.Common.{◌≡◌, ◌++◌, take}
use Rattle.plain_values.specs.Numbered.{numbered_from}
use Rattle.model_review.proofs.walks.add_of_points.Given as goal

abbrev pub invariant-loop-number : goal.invariant-loop-number
invariant-loop-number g l = l.found ≡ l.fn.found ++ numbered_from (g.P.PointFinding.finding l.told l.view l.owner) 0 (take l.number l.points)
