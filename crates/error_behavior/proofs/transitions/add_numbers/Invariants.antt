use Rattle.std.proofs.Common.{◌≡◌, ◌++◌, take}
use Rattle.error_behavior.proofs.transitions.add_numbers.Given as goal

abbrev pub invariant-loop-number : goal.invariant-loop-number
invariant-loop-number l = l.numbers ≡ l.fn.numbers ++ take l.number-index l.more
