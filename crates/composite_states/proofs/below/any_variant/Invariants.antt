use Rattle.std.proofs.Common.{◌≡◌, map, take}
use Rattle.composite_states.specs.Below.{variant_cause}
use Rattle.composite_states.proofs.below.any_variant.Given as goal

abbrev pub invariant-loop-number : goal.invariant-loop-number
invariant-loop-number l = l.parts ≡ map (variant_cause l.path) (take l.number-index l.numbers)
