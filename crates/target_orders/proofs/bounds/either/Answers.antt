use Rattle.std.proofs.Common.{arith}
use Rattle.target_orders.proofs.BoundLaws.{met-either}
use Rattle.target_orders.proofs.bounds.either.Goals as goal

pub returns : goal.returns
returns c places set met =
    met-either places set c.args.a c.args.b c.over_both.result (omega (arith, c.over_both.ensures.low, c.smaller.ensures.first)) (omega (arith, c.over_both.ensures.low, c.smaller.ensures.second)) c.over_both.ensures.first c.over_both.ensures.second met
