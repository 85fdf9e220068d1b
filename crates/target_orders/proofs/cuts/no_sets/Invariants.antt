use Rattle.std.proofs.Common.{◌≡◌, [], replicate}
use Rattle.target_orders.proofs.cuts.no_sets.Given as goal

abbrev pub invariant-loop-fact : goal.invariant-loop-fact
invariant-loop-fact l = l.sets.items ≡ replicate l.fact []
