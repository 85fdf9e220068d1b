use Rattle.std.proofs.Common.{◌-◌}
use Rattle.target_orders.specs.Orders.{NeedsAtLeast}
use Rattle.target_orders.proofs.orders.least.Given as goal

abbrev pub invariant-loop-count : goal.invariant-loop-count
invariant-loop-count l = NeedsAtLeast l.system l.part.target l.count

abbrev pub decreases-loop-count : goal.decreases-loop-count
decreases-loop-count l = l.high - l.count
