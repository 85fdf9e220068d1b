use Rattle.std.proofs.Common.{drop}
use Rattle.plain_values.specs.Rising.{RisesWithin}
use Rattle.target_orders.proofs.cuts.are_rising.Given as goal

abbrev pub invariant-loop-number : goal.invariant-loop-number
invariant-loop-number l = RisesWithin l.low l.count (drop l.number-index l.set) → RisesWithin 0 l.count l.set
