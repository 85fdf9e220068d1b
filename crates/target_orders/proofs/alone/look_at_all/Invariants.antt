use Rattle.target_orders.specs.inner.Alone.{AreAlone, IsRest}
use Rattle.target_orders.proofs.alone.look_at_all.Given as goal

abbrev pub invariant-loop-event : goal.invariant-loop-event
invariant-loop-event l = IsRest l.event l.walk × AreAlone l.system l.found
