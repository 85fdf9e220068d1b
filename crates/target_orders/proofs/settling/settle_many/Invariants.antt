use Rattle.target_orders.specs.inner.Sizes.{KnowsSizes}
use Rattle.target_orders.proofs.settling.settle_many.Given as goal

abbrev pub invariant-loop-half : goal.invariant-loop-half
invariant-loop-half l = KnowsSizes l.question.system.now l.sizes
