use Rattle.zdd_store.specs.inner.Store.{Keeps}
use Rattle.cutset_engine.proofs.families.raced_family.Given as goal

abbrev pub invariant-loop-turn : goal.invariant-loop-turn
invariant-loop-turn l = Keeps l.fn.store l.store
