use Rattle.std.proofs.Common.{◌≡◌, false, take}
use Rattle.error_libraries.specs.Search.{is_number_in}
use Rattle.propagation_points.proofs.side.is_number_in.Given as goal

abbrev pub invariant-loop-other : goal.invariant-loop-other
invariant-loop-other l = is_number_in (take l.other-index l.numbers) l.number ≡ false
