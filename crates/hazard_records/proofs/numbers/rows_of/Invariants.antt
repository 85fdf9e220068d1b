use Rattle.std.proofs.Common.{take}
use Rattle.std.specs.HashMap.{get}
use Rattle.package_index.specs.inner.Tables.{same_words}
use Rattle.hazard_records.specs.inner.Tables.{KnowsNumbers}
use Rattle.hazard_records.proofs.numbers.rows_of.Given as goal

abbrev pub invariant-loop-number : goal.invariant-loop-number
invariant-loop-number l = KnowsNumbers (take l.number l.keys) (get same_words l.rows)
