use Rattle.std.proofs.Common.{◌≡◌, ◌++◌, take}
use Rattle.component_extension.specs.Members.{marks_of}
use Rattle.component_extension.proofs.names.add_marks.Given as goal

abbrev pub invariant-loop-declaration : goal.invariant-loop-declaration
invariant-loop-declaration g l = l.marks.items ≡ l.fn.marks.items ++ marks_of g.M.MemberKind.kind (take l.declaration-index l.declarations)
