use Rattle.std.proofs.Common.{◌≡◌, take}
use Rattle.plain_values.specs.Numbered.{numbered_from}
use Rattle.error_libraries.specs.Libraries.{types_in}
use Rattle.error_libraries.proofs.numbers.types_by.Given as goal

abbrev pub invariant-loop-number : goal.invariant-loop-number
invariant-loop-number l = l.types ≡ numbered_from (λ number library. types_in l.fn.each number library.items) 0 (take l.number l.libraries)
