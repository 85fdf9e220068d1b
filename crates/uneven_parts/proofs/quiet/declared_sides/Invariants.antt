use Rattle.std.proofs.Common.{◌≡◌, take}
use Rattle.plain_values.specs.Numbered.{numbered_from}
use Rattle.uneven_parts.specs.Quiet.{declared_side}
use Rattle.uneven_parts.proofs.quiet.declared_sides.Given as goal

abbrev pub invariant-loop-number : goal.invariant-loop-number
invariant-loop-number l = l.sides ≡ numbered_from declared_side 0 (take l.number l.points)
