use Rattle.std.proofs.Common.{take}
use Rattle.std.specs.HashMap.{get}
use Rattle.component_extension.specs.inner.Members.{KnowsMarks}
use Rattle.package_index.specs.inner.Tables.{same_text}
use Rattle.component_extension.proofs.names.first_of.Given as goal

abbrev pub invariant-loop-mark : goal.invariant-loop-mark
invariant-loop-mark l = KnowsMarks (take l.mark-index l.marks) (get same_text l.table)
