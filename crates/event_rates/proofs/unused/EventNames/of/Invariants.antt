use Rattle.std.proofs.Common.{take}
use Rattle.std.specs.HashSet.{contains}
use Rattle.package_index.specs.inner.Tables.{same_words}
use Rattle.event_rates.specs.inner.Known.{KnowsNames}
use Rattle.event_rates.proofs.unused.EventNames.of.Given as goal

abbrev pub invariant-loop-name : goal.invariant-loop-name
invariant-loop-name l = KnowsNames (take l.name-index l.all) (contains same_words l.names)
