use Rattle.std.proofs.Common.{take}
use Rattle.std.specs.HashSet.{contains}
use Rattle.uneven_parts.specs.Quiet.{same_given}
use Rattle.uneven_parts.specs.inner.Tables.{KnowsGiven}
use Rattle.uneven_parts.proofs.gives.given_set.Given as goal

abbrev pub invariant-loop-one : goal.invariant-loop-one
invariant-loop-one l = KnowsGiven (take l.one-index l.all) (contains same_given l.set)
