use Rattle.std.proofs.Common.{◌≡◌, drop}
use Rattle.noted_refusals.specs.inner.Noted.{noting}
use Rattle.component_extension.specs.Members.{unknown_members}
use Rattle.component_extension.proofs.members.note_unknown.Given as goal

abbrev pub invariant-loop-declaration : goal.invariant-loop-declaration
invariant-loop-declaration g l =
    noting l.refusals (unknown_members g.M.MemberKind.kind l.names (drop l.declaration-index l.all)) ≡ noting l.fn.refusals (unknown_members g.M.MemberKind.kind l.names l.all)
