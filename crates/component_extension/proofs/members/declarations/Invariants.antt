use Rattle.std.proofs.Common.{◌≡◌, take}
use Rattle.component_extension.specs.Members.{declarations}
use Rattle.component_extension.proofs.members.declarations.Given as goal

abbrev pub invariant-loop-level : goal.invariant-loop-level
invariant-loop-level g l = l.all.items ≡ declarations g.M.MemberKind.kind (take l.level l.classifiers)
