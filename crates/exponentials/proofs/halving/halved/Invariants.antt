use Rattle.std.proofs.Common.{◌≤◌, ◌-◌, ◌*◌, ◌^◌}
use Rattle.decimals.specs.Decimals.{parts}
use Rattle.exponentials.proofs.halving.halved.Given as goal

abbrev pub invariant-loop-halvings : goal.invariant-loop-halvings
invariant-loop-halvings l = (l.halvings ≤ 40) × (parts l.half.low * 2 ^ l.halvings ≤ parts l.fn.x.low) × (parts l.fn.x.high ≤ parts l.half.high * 2 ^ l.halvings)

abbrev pub decreases-loop-halvings : goal.decreases-loop-halvings
decreases-loop-halvings l = 40 - l.halvings
