use Rattle.std.proofs.Common.{◌≡◌, drop}
use Rattle.noted_refusals.specs.inner.Noted.{noting}
use Rattle.component_extension.specs.Members.{duplicates}
use Rattle.component_extension.proofs.names.note_duplicates.Given as goal

abbrev pub invariant-loop-mark : goal.invariant-loop-mark
invariant-loop-mark l = noting l.refusals (duplicates l.names (drop l.mark-index l.mark-items)) ≡ noting l.fn.refusals (duplicates l.names l.mark-items)
