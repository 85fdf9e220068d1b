use Rattle.std.proofs.Common.{take}
use Rattle.zdd_store.specs.inner.Store.{Keeps}
use Rattle.order_bounds.specs.inner.Many.{AreAlone}
use Rattle.order_bounds.proofs.many.alone.Given as goal

abbrev pub invariant-loop-event : goal.invariant-loop-event
invariant-loop-event l = record {
  kept : Keeps l.fn.store l.store;
  alone : AreAlone l.store (take l.event-index l.events) l.ids.items;
}
