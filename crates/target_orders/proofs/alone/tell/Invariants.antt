use Rattle.target_orders.specs.inner.Alone.{AreAlone, IsWalk}
use Rattle.target_orders.proofs.alone.tell.Given as goal

abbrev pub invariant-loop-user : goal.invariant-loop-user
invariant-loop-user l = IsWalk l.system l.stamp l.walk × AreAlone l.system l.found
