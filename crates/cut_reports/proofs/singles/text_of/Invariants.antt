use Rattle.std.proofs.Common.{◌≡◌, take}
use Rattle.cut_reports.specs.inner.Numbered.{numbered_text}
use Rattle.cut_reports.specs.inner.Singles.{marked_line}
use Rattle.cut_reports.proofs.singles.text_of.Given as goal

abbrev pub invariant-loop-i : goal.invariant-loop-i
invariant-loop-i l = l.text.items ≡ numbered_text (marked_line l.marks) 0 (take l.i l.names)
