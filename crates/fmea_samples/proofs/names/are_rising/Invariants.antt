use Rattle.std.proofs.Common.{drop}
use Rattle.plain_values.specs.Rising.{RisesWithin}
use Rattle.fmea_samples.proofs.names.are_rising.Given as goal

abbrev pub invariant-loop-number : goal.invariant-loop-number
invariant-loop-number l = RisesWithin l.low l.count (drop l.number-index l.numbers) → RisesWithin 0 l.count l.numbers
