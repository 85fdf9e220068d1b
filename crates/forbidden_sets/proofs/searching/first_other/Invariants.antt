use Rattle.std.proofs.Common.{◌≤◌, ◌-◌}
use Rattle.zdd_store.specs.inner.Store.{Keeps}
use Rattle.requirement_verdicts.specs.inner.Verdicts.{HasNoMinimal}
use Rattle.forbidden_sets.specs.inner.Families.{AreFound, IsOther}
use Rattle.forbidden_sets.proofs.searching.first_other.Given as goal

abbrev pub invariant-loop-tried : goal.invariant-loop-tried
invariant-loop-tried l = record {
  kept : Keeps l.fn.store l.store;
  families : AreFound l.judged.system.now l.store l.families;
  few : l.tried ≤ l.most;
  none : HasNoMinimal l.judged.system.now l.judged.slice.now.target (IsOther l.parts l.tried);
}

abbrev pub decreases-loop-tried : goal.decreases-loop-tried
decreases-loop-tried l = l.most - l.tried
