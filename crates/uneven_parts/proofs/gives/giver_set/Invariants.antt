use Rattle.std.proofs.Common.{take}
use Rattle.std.specs.HashSet.{contains}
use Rattle.uneven_parts.specs.Quiet.{same_giver}
use Rattle.uneven_parts.specs.inner.Tables.{KnowsGivers}
use Rattle.uneven_parts.proofs.gives.giver_set.Given as goal

abbrev pub invariant-loop-owner : goal.invariant-loop-owner
invariant-loop-owner l = KnowsGivers (take l.owner-index l.all) (contains same_giver l.set)
