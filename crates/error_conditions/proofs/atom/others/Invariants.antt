use Rattle.std.proofs.Common.{◌≡◌, filter, not}
use Rattle.plain_values.specs.Numbered.{numbers_below}
use Rattle.error_libraries.specs.Search.{is_number_in}
use Rattle.error_conditions.proofs.atom.others.Given as goal

abbrev pub invariant-loop-number : goal.invariant-loop-number
invariant-loop-number l = l.others ≡ filter (λ number. not (is_number_in l.meant number)) (numbers_below l.number)
