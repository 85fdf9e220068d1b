use Rattle.target_orders.specs.inner.Sizes.{KnowsSizes}
use Rattle.target_orders.proofs.settling.settle_in_order.Given as goal

abbrev pub invariant-loop-at : goal.invariant-loop-at
invariant-loop-at l = KnowsSizes l.question.system.now l.sizes
