use Rattle.std.proofs.Common.{nat_eq, take}
use Rattle.std.specs.HashSet.{contains}
use Rattle.system_review.specs.inner.Steps.{IsClosedAmong}
use Rattle.system_review.proofs.followed.is_closed.Given as goal

abbrev pub invariant-loop-number : goal.invariant-loop-number
invariant-loop-number l = IsClosedAmong l.system (take l.number-index l.among) (contains nat_eq l.found.numbers)
