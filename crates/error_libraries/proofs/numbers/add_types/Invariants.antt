use Rattle.std.proofs.Common.{◌≡◌, ◌++◌, take}
use Rattle.plain_values.specs.Numbered.{numbered_from}
use Rattle.error_libraries.specs.Libraries.{counted}
use Rattle.error_libraries.proofs.numbers.add_types.Given as goal

abbrev pub invariant-loop-place : goal.invariant-loop-place
invariant-loop-place l = l.types ≡ l.fn.types ++ numbered_from (counted l.fn.each l.fn.number l.items) 0 (take l.place l.items)
