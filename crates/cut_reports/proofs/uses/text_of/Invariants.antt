use Rattle.std.proofs.Common.{◌≡◌, take}
use Rattle.cut_reports.specs.inner.Numbered.{numbered_text}
use Rattle.cut_reports.specs.inner.Uses.{counted_use}
use Rattle.cut_reports.proofs.uses.text_of.Given as goal

abbrev pub invariant-loop-i : goal.invariant-loop-i
invariant-loop-i l = l.text.items ≡ numbered_text (counted_use l.counts) 0 (take l.i l.names)
