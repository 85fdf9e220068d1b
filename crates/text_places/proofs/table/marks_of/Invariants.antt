use Rattle.std.proofs.Common.{◌≡◌, All}
use Rattle.text_places.specs.inner.Marks.{IsMark, mark_at}
use Rattle.text_places.proofs.table.marks_of.Given as goal

abbrev pub invariant-loop-number : goal.invariant-loop-number
invariant-loop-number l = (l.mark ≡ mark_at l.text l.number) × All (IsMark l.text) l.marks.items
