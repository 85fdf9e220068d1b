use Rattle.std.proofs.Common.{arith}
use Rattle.target_orders.proofs.BoundLaws.{met-both}
use Rattle.target_orders.proofs.bounds.both.Goals as goal

pub returns-then-are_apart : goal.returns-then-are_apart
returns-then-are_apart c places set one other =
    met-both places set c.args.a c.args.b c.over_both.result (omega (arith, c.over_both.ensures.low, c.sum_of.ensures)) c.over_both.ensures.first c.over_both.ensures.second (c.are_apart.ensures c.if-are_apart.true) one other
