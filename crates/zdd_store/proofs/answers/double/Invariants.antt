use Rattle.std.proofs.Common.{◌≤◌, length}
use Rattle.zdd_store.specs.inner.Answers.{AreRight}
use Rattle.zdd_store.specs.inner.Store.{Families}
use Rattle.zdd_store.proofs.answers.double.Given as goal

abbrev pub invariant-loop-place : goal.invariant-loop-place
invariant-loop-place l = record {
  long : l.places ≤ length l.table.items;
  right : (store : Families) → AreRight store l.fn.table.items → AreRight store l.table.items;
}
