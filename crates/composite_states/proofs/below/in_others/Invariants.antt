use Rattle.std.proofs.Common.{◌≡◌, map}
use Rattle.plain_values.specs.Numbered.{numbers_below}
use Rattle.composite_states.specs.Below.{others_in, variant_cause}
use Rattle.composite_states.proofs.below.in_others.Given as goal

abbrev pub invariant-loop-number : goal.invariant-loop-number
invariant-loop-number l = l.parts ≡ map (variant_cause l.path) (others_in l.held (numbers_below l.number))
