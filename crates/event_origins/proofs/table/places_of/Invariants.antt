use Rattle.std.proofs.Common.{take}
use Rattle.std.specs.HashMap.{get}
use Rattle.package_index.specs.inner.Tables.{Knows, same_text}
use Rattle.event_origins.specs.inner.Named.{has_text}
use Rattle.event_origins.proofs.table.places_of.Given as goal

abbrev pub invariant-loop-number : goal.invariant-loop-number
invariant-loop-number l = Knows has_text (take l.number l.list) (get same_text l.places)
