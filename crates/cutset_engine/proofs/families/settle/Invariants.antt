use Rattle.zdd_store.specs.inner.Store.{Keeps}
use Rattle.cutset_engine.specs.inner.Filling.{IsFilling, task_of}
use Rattle.cutset_engine.proofs.families.settle.Given as goal

abbrev pub invariant-loop-step : goal.invariant-loop-step
invariant-loop-step l = record {
  kept : Keeps l.fn.store l.store;
  filling : IsFilling (task_of l.setting) l.store l.now;
}
