-- The two sides of a meaning, one at a time.
use Rattle.error_conditions.specs.Conditions.{Pair}
use Rattle.error_conditions.specs.declared.cause.Cause.{Cause}
use Rattle.error_conditions.specs.declared.side.Side.{Side}
use Rattle.error_conditions.specs.declared.side.Side.TheVariants.{Holds, Fails}

-- the cause of a side
abbrev pub at_side : Side → Pair → Cause
at_side Holds pair = pair.holds
at_side Fails pair = pair.fails

-- the other side
abbrev pub other_side : Side → Side
other_side Holds = Fails
other_side Fails = Holds
