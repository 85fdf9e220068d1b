use Rattle.std.proofs.Common.{◌<◌, All, length}
use Rattle.target_orders.proofs.sizes.reached_facts.Given as goal

abbrev pub invariant-loop-fact : goal.invariant-loop-fact
invariant-loop-fact l = All (λ n. n < length l.system.facts) l.found.items
