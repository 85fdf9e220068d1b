use Rattle.std.proofs.Common.{◌≡◌, filter}
use Rattle.std.specs.List.{range_with_len}
use Rattle.fault_system.specs.Truth.{member}
use Rattle.merged_gates.proofs.events.numbers_of.Given as goal

abbrev pub invariant-loop-number : goal.invariant-loop-number
invariant-loop-number l = l.numbers ≡ filter (member l.marks) (range_with_len 0 l.number)
