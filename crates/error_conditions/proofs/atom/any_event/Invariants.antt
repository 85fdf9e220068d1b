use Rattle.std.proofs.Common.{◌≡◌, map, take}
use Rattle.error_conditions.specs.declared.cause.Cause.TheVariants.{Event}
use Rattle.error_conditions.proofs.atom.any_event.Given as goal

abbrev pub invariant-loop-number : goal.invariant-loop-number
invariant-loop-number l = l.parts ≡ map Event (take l.number-index l.numbers)
