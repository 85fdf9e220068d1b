use Rattle.std.proofs.Common.{take}
use Rattle.zdd_store.specs.inner.Store.{IsIn, Keeps, family_of}
use Rattle.target_probabilities.specs.inner.Probable.{AreOfFamily}
use Rattle.target_probabilities.proofs.told.importances_of.Given as goal

abbrev pub invariant-loop-event : goal.invariant-loop-event
invariant-loop-event l = IsIn l.store l.family × Keeps l.fn.store l.store × AreOfFamily l.whole l.rates (family_of l.fn.store l.family) (take l.event-index l.events) l.list.items
