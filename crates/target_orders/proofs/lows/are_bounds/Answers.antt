use Rattle.std.proofs.Common.{arith}
use Rattle.target_orders.proofs.BoundLaws.{bounds-closed}
use Rattle.target_orders.proofs.lows.are_bounds.Goals as goal

pub returns : goal.returns
returns c _ =
    bounds-closed c.args.system.now c.args.places.now c.args.bounds.now (λ n below. c.loop-fact.invariant n (omega (arith, below, c.loop-fact-test.false, c.facts-fact-end.ensures.count)))
