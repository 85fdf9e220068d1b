use Rattle.std.proofs.Common.{◌≡◌, false, take}
use Rattle.std.specs.List.{list_any}
use Rattle.error_libraries.specs.Search.{is_number_in}
use Rattle.model_review.proofs.sides.has_some.Given as goal

abbrev pub invariant-loop-number : goal.invariant-loop-number
invariant-loop-number l = list_any (is_number_in l.types) (take l.number-index l.numbers) ≡ false
