use Rattle.std.proofs.Common.{◌≡◌, drop, take}
use Rattle.noted_refusals.specs.inner.Noted.{noting}
use Rattle.used_sets.specs.inner.Marks.{Marked}
use Rattle.used_sets.specs.Used.{items_refusals, use_clause}
use Rattle.used_sets.proofs.faults.note_items.Given as goal

abbrev pub invariant-loop-item : goal.invariant-loop-item
invariant-loop-item g l = record {
  kept : l.reading.types ≡ l.fn.reading.types;
  marks : Marked l.fn.marks l.marks (use_clause g.T.HasSets.sets (take l.item-index l.items));
  first : noting l.reading.refusals (items_refusals g.T.HasSets.sets l.fn.reading.types l.scopes (drop l.item-index l.items)) ≡ noting l.fn.reading.refusals (items_refusals g.T.HasSets.sets l.fn.reading.types l.scopes l.items);
}
