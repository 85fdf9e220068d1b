use Rattle.std.proofs.Common.{◌≡◌, take}
use Rattle.std.specs.HashMap.{get}
use Rattle.component_extension.specs.Members.{member_key, members_of}
use Rattle.component_extension.specs.inner.Rows.{KnowsRows, same_words}
use Rattle.component_extension.proofs.members.members_of.Given as goal

abbrev pub invariant-loop-declaration : goal.invariant-loop-declaration
invariant-loop-declaration g l = record {
  members : l.members.items ≡ members_of g.M.MemberKind.kind l.names (take l.declaration-index l.all);
  knows : KnowsRows (member_key g.M.MemberKind.kind) l.members.items (get same_words l.places);
}
