use Rattle.target_orders.specs.inner.Sizes.{KnowsSizes}
use Rattle.target_orders.proofs.settling.pass_on.Given as goal

abbrev pub invariant-loop-fact : goal.invariant-loop-fact
invariant-loop-fact l = KnowsSizes l.system l.sizes
