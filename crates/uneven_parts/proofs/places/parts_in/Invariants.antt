use Rattle.std.proofs.Common.{◌≡◌, filter, take}
use Rattle.uneven_parts.specs.Unlike.{is_of_part}
use Rattle.uneven_parts.proofs.places.parts_in.Given as goal

abbrev pub invariant-loop-number : goal.invariant-loop-number
invariant-loop-number l = l.found ≡ filter (is_of_part l.parts l.system l.owner) (take l.number-index l.number-items)
