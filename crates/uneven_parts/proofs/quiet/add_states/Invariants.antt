use Rattle.std.proofs.Common.{◌≡◌, ◌++◌, flat_map}
use Rattle.plain_values.specs.Numbered.{numbers_below}
use Rattle.uneven_parts.specs.Quiet.{quiet_state}
use Rattle.uneven_parts.proofs.quiet.add_states.Given as goal

abbrev pub invariant-loop-place : goal.invariant-loop-place
invariant-loop-place l = l.found ≡ l.fn.found ++ flat_map (quiet_state l.all l.facts l.sides l.owner) (numbers_below l.place)
