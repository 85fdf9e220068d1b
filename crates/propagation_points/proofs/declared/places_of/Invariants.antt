use Rattle.std.proofs.Common.{take}
use Rattle.std.specs.HashMap.{get}
use Rattle.package_index.specs.inner.Tables.{Knows}
use Rattle.propagation_points.specs.inner.Tables.{declares_side, same_side}
use Rattle.propagation_points.proofs.declared.places_of.Given as goal

abbrev pub invariant-loop-number : goal.invariant-loop-number
invariant-loop-number l = Knows declares_side (take l.number l.items) (get same_side l.places)
