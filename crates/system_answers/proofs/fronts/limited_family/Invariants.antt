use Rattle.zdd_store.specs.inner.Store.{Keeps}
use Rattle.system_answers.proofs.fronts.limited_family.Given as goal

abbrev pub invariant-loop-round : goal.invariant-loop-round
invariant-loop-round l = Keeps l.fn.store l.store
