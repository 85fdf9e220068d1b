use Rattle.std.proofs.Common.{◌≡◌, ◌++◌, flat_map, take}
use Rattle.uneven_parts.specs.Quiet.{quiet_at}
use Rattle.uneven_parts.proofs.quiet.add_at.Given as goal

abbrev pub invariant-loop-point : goal.invariant-loop-point
invariant-loop-point l = l.found ≡ l.fn.found ++ flat_map (quiet_at l.all l.owner l.state) (take l.point-index l.sides)
