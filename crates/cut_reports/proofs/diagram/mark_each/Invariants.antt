use Rattle.std.proofs.Common.{◌≡◌, [], length, vec_len}
use Rattle.fta_outside.specs.Counts.{AreMarks}
use Rattle.zdd_store.specs.inner.Store.{IsIn, family_of}
use Rattle.cut_reports.specs.inner.Diagram.{AreMarkedTo}
use Rattle.cut_reports.proofs.diagram.mark_each.Given as goal

abbrev pub invariant-loop-node : goal.invariant-loop-node
invariant-loop-node l = record {
  marks : AreMarks l.fn.marks.items [] → AreMarkedTo l.store l.fn.part l.id l.marks.items;
  found : IsIn l.store l.id;
  count : vec_len l.marks ≡ vec_len l.fn.marks;
}

abbrev pub decreases-loop-node : goal.decreases-loop-node
decreases-loop-node l = length (family_of l.store l.id)
