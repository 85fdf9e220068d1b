use Rattle.std.proofs.Common.{◌≡◌, drop}
use Rattle.galileo_reader.specs.Statements.{names_of}
use Rattle.galileo_reader.proofs.NameLists.{behind}
use Rattle.galileo_reader.proofs.saying.names_of.Given as goal

abbrev pub invariant-loop-mark : goal.invariant-loop-mark
invariant-loop-mark l = behind l.names (names_of l.text (drop l.mark-index l.marks)) ≡ names_of l.text l.marks
