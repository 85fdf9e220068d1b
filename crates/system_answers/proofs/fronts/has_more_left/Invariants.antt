use Rattle.std.proofs.Common.{◌≡◌, ◌+◌, length}
use Rattle.cutset_lister.specs.inner.Walks.{IsStarted, sets_left}
use Rattle.system_answers.proofs.fronts.has_more_left.Given as goal

abbrev pub invariant-loop-passed : goal.invariant-loop-passed
invariant-loop-passed g l = IsStarted l.store l.listing × (length (sets_left l.store l.fn.listing) ≡ l.passed + length (sets_left l.store l.listing))
