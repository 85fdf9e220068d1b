use Rattle.std.proofs.Common.{◌≡◌, ◌++◌, take}
use Rattle.system_review.proofs.by_rounds.append.Given as goal

abbrev pub invariant-loop-number : goal.invariant-loop-number
invariant-loop-number l = l.found ≡ l.fn.found ++ take l.number-index l.more
