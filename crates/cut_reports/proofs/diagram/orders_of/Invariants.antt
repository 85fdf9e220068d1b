use Rattle.std.proofs.Common.{◌≡◌, vec_len}
use Rattle.zdd_store.specs.inner.Store.{Keeps, family_of}
use Rattle.fta_outside.specs.Counts.{AreCounts, has_size}
use Rattle.cut_reports.specs.inner.Diagram.{AreBelow}
use Rattle.cut_reports.proofs.diagram.orders_of.Given as goal

abbrev pub invariant-loop-size : goal.invariant-loop-size
invariant-loop-size l = record {
  kept : Keeps l.fn.store l.store;
  below : AreBelow l.store l.counts.items;
  orders : AreCounts has_size l.orders.items (family_of l.fn.store l.family);
  count : vec_len l.orders ≡ l.size;
}
