use Rattle.std.proofs.Common.{take}
use Rattle.std.specs.HashMap.{get}
use Rattle.package_index.specs.inner.Tables.{Knows, same_pair}
use Rattle.error_libraries.specs.inner.Tables.{has_number}
use Rattle.error_libraries.proofs.numbers.numbers_of.Given as goal

abbrev pub invariant-loop-number : goal.invariant-loop-number
invariant-loop-number l = Knows has_number (take l.number l.types) (get same_pair l.numbers)
