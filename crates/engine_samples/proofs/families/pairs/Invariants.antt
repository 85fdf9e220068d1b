use Rattle.std.proofs.Common.{◌≤◌}
use Rattle.zdd_store.specs.inner.Store.{IsIn}
use Rattle.engine_samples.proofs.families.pairs.Given as goal

abbrev pub invariant-loop-at : goal.invariant-loop-at
invariant-loop-at l = record {
  all_in : IsIn l.store l.all;
  few : l.at ≤ 2147483648;
}

abbrev pub decreases-loop-at : goal.decreases-loop-at
decreases-loop-at l = l.at
