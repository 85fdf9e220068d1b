use Rattle.std.proofs.Common.{◌-◌, length}
use Rattle.propagation_points.proofs.side.skip_below.Given as goal

abbrev pub decreases-loop-place : goal.decreases-loop-place
decreases-loop-place l = length l.numbers - l.place
