use Rattle.std.proofs.Common.{}
use Rattle.fault_system.specs.Truth.{member}
use Rattle.system_review.proofs.Rising.{Listed, is_missing}
use Rattle.system_review.proofs.listing.missing.Given as goal

abbrev pub invariant-loop-number : goal.invariant-loop-number
invariant-loop-number g l = Listed (is_missing (g.S.Numbers.set l.wanted) (member l.found)) l.number l.list
