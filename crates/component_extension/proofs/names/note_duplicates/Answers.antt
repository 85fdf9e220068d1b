use Rattle.std.proofs.Common.{◌≡◌, ap, ◌∙◌}
use Rattle.std.specs.List.{list_any}
use Rattle.plain_values.specs.declared.refusal.Code.TheVariants.{DuplicateName}
use Rattle.noted_refusals.specs.inner.Noted.{noting}
use Rattle.component_extension.specs.Members.{is_earlier}
use Rattle.plain_values.specs.Refusal.{refused_so}
use Rattle.noted_refusals.proofs.Loops.{noting-more}
use Rattle.component_extension.proofs.names.note_duplicates.Goals as goal

pub loop-mark-preserved : goal.loop-mark-preserved
loop-mark-preserved c =
    let marks = c.args.names.now in
    let spot : c.spot-spot.result ≡ c.mark-item.result.spot = c.spot-spot.ensures in
    noting-more c.marks-mark-items.result.now c.loop-mark.mark-index c.mark-item.result c.loop-mark-test.true c.mark-item.is
    (λ mark. refused_so (list_any (is_earlier mark.name mark.level mark.spot.at) marks) DuplicateName mark.spot) c.loop-mark.refusals c.note_if.new.self _
    (c.note_if.ensures ∙ ap (λ b. noting c.loop-mark.refusals (refused_so b DuplicateName c.spot-spot.result)) c.has_before-is_again.ensures
    ∙ (λ i. noting c.loop-mark.refusals (refused_so (list_any (is_earlier (c.name.ensures i) (c.level.ensures i) ((spot i).at)) marks) DuplicateName (spot i)))) c.loop-mark.invariant
