use Rattle.std.proofs.Common.{◌≡◌, take}
use Rattle.plain_values.specs.Numbered.{numbered_from}
use Rattle.propagation_points.specs.States.{covered_variant}
use Rattle.propagation_points.proofs.held.covered.Given as goal

abbrev pub invariant-loop-place : goal.invariant-loop-place
invariant-loop-place l = l.numbers ≡ numbered_from (covered_variant l.reach l.first) 0 (take l.place l.types)
