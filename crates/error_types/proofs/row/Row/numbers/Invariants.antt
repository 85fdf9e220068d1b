use Rattle.std.proofs.Common.{◌≡◌, filter}
use Rattle.plain_values.specs.Numbered.{numbers_below}
use Rattle.error_types.specs.inner.Words.{bit_in}
use Rattle.error_types.proofs.row.Row.numbers.Given as goal

abbrev pub invariant-loop-number : goal.invariant-loop-number
invariant-loop-number l = l.numbers ≡ filter (bit_in l.self-inside.words.items) (numbers_below l.number)
