use Rattle.std.proofs.Common.{ap, ◌∙◌, sym, [], ◌∷◌, fold, filter}
use Rattle.component_extension.specs.Members.{declare, stands}
use Rattle.package_index.proofs.Loops.{folded-more}
use Rattle.component_extension.proofs.members.members_of.Goals as goal

pub loop-declaration-preserved : goal.loop-declaration-preserved
loop-declaration-preserved g c =
    let kind = g.M.MemberKind.kind in
    let made = stands kind c.args.names.now in
    record {
      members = c.in_ok-declare_member.ensures.members ∙ ap (λ members. fold (declare kind) members (filter made (c.declaration-item.result ∷ []))) c.loop-declaration.invariant.members
          ∙ sym (folded-more c.args.all.now c.loop-declaration.declaration-index c.declaration-item.result c.loop-declaration-test.true c.declaration-item.is (declare kind) made []);
      knows = c.in_ok-declare_member.ensures.knows;
    }
