use Rattle.std.proofs.Common.{arith}
use Rattle.propagation_links.proofs.BoundLaws.{carried-more}
use Rattle.propagation_links.proofs.carried.count_all_carried.Goals as goal

pub loop-one-preserved : goal.loop-one-preserved
loop-one-preserved c = record {
  within = omega (arith, c.loop-one-test.true);
  count = carried-more c.args.carried.now c.loop-one.one-index c.one-item.result c.loop-one-test.true c.one-item.is c.loop-one.count c.count_carried-count.result c.loop-one.invariant.count c.count_carried-count.ensures.count;
  few = omega (arith, c.loop-one.invariant.few, c.count_carried-count.ensures.few);
}
