use Rattle.std.proofs.Common.{◌≡◌, filter, take}
use Rattle.system_review.specs.inner.Steps.{is_next}
use Rattle.system_review.proofs.by_rounds.next.Given as goal

abbrev pub invariant-loop-number : goal.invariant-loop-number
invariant-loop-number l = l.more ≡ filter (is_next l.system l.facts) (take l.number-index l.among)
