use Rattle.std.proofs.Common.{nat_eq, take}
use Rattle.std.specs.HashSet.{contains}
use Rattle.uneven_parts.specs.inner.Tables.{KnowsNumbers}
use Rattle.uneven_parts.proofs.unlike.numbers_of.Given as goal

abbrev pub invariant-loop-number : goal.invariant-loop-number
invariant-loop-number l = KnowsNumbers (take l.number-index l.numbers) (contains nat_eq l.set)
