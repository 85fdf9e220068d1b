use Rattle.std.proofs.Common.{arith}
use Rattle.propagation_links.proofs.BoundLaws.{counted-more}
use Rattle.propagation_links.proofs.bound_links.count_references.Goals as goal

pub loop-bound-preserved : goal.loop-bound-preserved
loop-bound-preserved c = record {
  within = omega (arith, c.loop-bound-test.true);
  count = counted-more c.args.bounds.now c.loop-bound.bound-index c.bound-item.result c.loop-bound-test.true c.bound-item.is c.loop-bound.count c.count_bound-count.result c.loop-bound.invariant.count c.count_bound-count.ensures.count;
  few = omega (arith, c.loop-bound.invariant.few, c.count_bound-count.ensures.few);
}
