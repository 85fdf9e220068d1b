use Rattle.std.proofs.Common.{arith}
use Rattle.target_orders.proofs.Reached.{within-more}
use Rattle.target_orders.proofs.orders.least.Goals as goal

pub returns-then-is_no_more-clause-within : goal.returns-then-is_no_more-clause-within
returns-then-is_no_more-clause-within c =
    within-more c.args.system.now c.args.part.now.target c.args.high c.args.low (c.is_no_more.ensures c.if-is_no_more.true) c.requires.within

pub returns-clause-within : goal.returns-clause-within
returns-clause-within c =
    within-more c.args.system.now c.args.part.now.target c.args.high c.loop-count.count (omega (arith, c.loop-count-test.false)) c.requires.within
