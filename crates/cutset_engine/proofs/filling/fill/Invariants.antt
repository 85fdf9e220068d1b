use Rattle.zdd_store.specs.inner.Store.{Keeps}
use Rattle.cutset_engine.specs.inner.Filling.{IsFilling, task_of}
use Rattle.cutset_engine.proofs.Rounds.{Rounds}
use Rattle.cutset_engine.proofs.filling.fill.Given as goal

abbrev pub invariant-loop-round : goal.invariant-loop-round
invariant-loop-round l = record {
  kept : Keeps l.fn.store l.store;
  filling : IsFilling (task_of l.setting) l.store l.now;
  rounds : Rounds (task_of l.setting) l.numbers l.store l.now l.round;
}
