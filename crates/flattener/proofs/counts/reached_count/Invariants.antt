use Rattle.std.proofs.Common.{◌≡◌, filter, length, take}
use Rattle.propagation_points.specs.Uses.{covers}
use Rattle.flattener.specs.inner.Tables.{capped}
use Rattle.flattener.proofs.counts.reached_count.Given as goal

abbrev pub invariant-loop-number : goal.invariant-loop-number
invariant-loop-number l = l.count ≡ capped (length (filter (covers l.reached.types) (take l.number-index l.number-items)))
