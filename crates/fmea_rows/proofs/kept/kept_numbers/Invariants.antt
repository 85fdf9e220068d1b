use Rattle.std.proofs.Common.{◌≡◌, filter, take}
use Rattle.fault_system.specs.Truth.{member}
use Rattle.fmea_rows.proofs.kept.kept_numbers.Given as goal

abbrev pub invariant-loop-number : goal.invariant-loop-number
invariant-loop-number l = l.kept ≡ filter (member l.set) (take l.number-index l.numbers)
