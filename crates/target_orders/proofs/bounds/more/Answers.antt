use Rattle.std.proofs.Common.{arith}
use Rattle.target_orders.proofs.BoundLaws.{tally-more}
use Rattle.target_orders.proofs.bounds.more.Goals as goal

pub returns : goal.returns
returns c places set count is_true is met =
    tally-more places set c.args.tally (record { bound = c.over_both-bound.result; apart = c.stays_apart-apart.result }) c.args.part
    (omega (arith, c.over_both-bound.ensures.low, c.smaller.ensures.first)) (omega (arith, c.over_both-bound.ensures.low, c.smaller.ensures.second))
    c.over_both-bound.ensures.first c.over_both-bound.ensures.second c.stays_apart-apart.ensures count is_true is met
