use Rattle.target_orders.specs.inner.Alone.{AreAlone, IsWalk}
use Rattle.target_orders.proofs.alone.spread.Given as goal

abbrev pub invariant-loop-step : goal.invariant-loop-step
invariant-loop-step l = IsWalk l.system l.stamp l.walk × AreAlone l.system l.found
