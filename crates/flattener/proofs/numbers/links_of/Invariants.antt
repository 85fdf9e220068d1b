use Rattle.std.proofs.Common.{take}
use Rattle.std.specs.HashMap.{get}
use Rattle.flattener.specs.inner.Tables.{AreLinks, same_key}
use Rattle.flattener.proofs.numbers.links_of.Given as goal

abbrev pub invariant-loop-link : goal.invariant-loop-link
invariant-loop-link l = AreLinks (take l.link-index l.links) (get same_key l.rows)
