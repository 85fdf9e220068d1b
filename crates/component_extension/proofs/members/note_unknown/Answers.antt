use Rattle.std.proofs.Common.{◌≡◌, ap, ◌∙◌}
use Rattle.plain_values.specs.declared.refusal.Code.TheVariants.{UnknownMember}
use Rattle.noted_refusals.specs.inner.Noted.{noting}
use Rattle.component_extension.specs.Members.{refines_nothing}
use Rattle.plain_values.specs.Refusal.{refused_so}
use Rattle.noted_refusals.proofs.Loops.{noting-more}
use Rattle.component_extension.proofs.members.note_unknown.Goals as goal

pub loop-declaration-preserved : goal.loop-declaration-preserved
loop-declaration-preserved g c =
    let kind = g.M.MemberKind.kind in
    let spot : c.spot.result ≡ kind.spot c.declaration-item.result.item = c.spot.ensures ∙ ap kind.spot c.item.ensures in
    noting-more c.args.all.now c.loop-declaration.declaration-index c.declaration-item.result c.loop-declaration-test.true c.declaration-item.is
    (λ declared. refused_so (refines_nothing kind c.args.names.now declared) UnknownMember (kind.spot declared.item)) c.loop-declaration.refusals c.note_if.new.self _
    (c.note_if.ensures ∙ (λ i. noting c.loop-declaration.refusals (refused_so (c.refines_nothing-is_unknown.ensures i) UnknownMember (spot i)))) c.loop-declaration.invariant
