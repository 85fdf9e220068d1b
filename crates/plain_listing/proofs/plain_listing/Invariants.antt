use Rattle.std.proofs.Common.{◌≡◌, filter, length}
use Rattle.fault_system.specs.inner.CutSets.{is_minimal}
use Rattle.plain_listing.proofs.Trying.{sets_below}
use Rattle.plain_listing.proofs.plain_listing.Given as goal

abbrev pub invariant-loop-size : goal.invariant-loop-size
invariant-loop-size l = l.listed ≡ filter (is_minimal l.system l.target) (sets_below l.size (length l.system.events))
