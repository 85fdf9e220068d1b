use Rattle.std.proofs.Common.{take}
use Rattle.listing_changes.specs.inner.Numbers.{AreNumbers}
use Rattle.listing_changes.proofs.numbers.translate.Given as goal

abbrev pub invariant-loop-event : goal.invariant-loop-event
invariant-loop-event l = AreNumbers l.table (take l.event-index l.set) l.numbers.items
