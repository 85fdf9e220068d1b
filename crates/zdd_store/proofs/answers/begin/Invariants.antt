use Rattle.zdd_store.specs.inner.Answers.{AreRight}
use Rattle.zdd_store.specs.inner.Store.{Families, IsSound}
use Rattle.zdd_store.proofs.answers.begin.Given as goal

abbrev pub invariant-loop-filled : goal.invariant-loop-filled
invariant-loop-filled l = (store : Families) → IsSound store → AreRight store l.fn.table.items → AreRight store l.table.items
