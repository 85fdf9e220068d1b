use Rattle.std.proofs.Common.{◌≡◌, false, not, take}
use Rattle.std.specs.List.{list_any}
use Rattle.error_libraries.specs.Search.{is_number_in}
use Rattle.propagation_points.proofs.side.has_other.Given as goal

abbrev pub invariant-loop-number : goal.invariant-loop-number
invariant-loop-number l = list_any (λ number. not (is_number_in l.declared number)) (take l.number-index l.numbers) ≡ false
