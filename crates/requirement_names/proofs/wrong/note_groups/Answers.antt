use Rattle.std.proofs.Common.{ap, flat_map, ◌∙◌}
use Rattle.requirement_names.specs.Wrong.{noting, wrong_member, wrong_members}
use Rattle.requirement_names.proofs.Loops.{noting-more}
use Rattle.requirement_names.proofs.wrong.note_groups.Goals as goal

pub loop-group-preserved : goal.loop-group-preserved
loop-group-preserved c =
    let system = c.args.model.now in
    let group = c.group-item.result in
    noting-more c.args.groups.now c.loop-group.group-index group c.loop-group-test.true c.group-item.is (wrong_members system) c.loop-group.first _ _
    (c.in_ok-note_members.ensures ∙ ap (λ members. noting c.loop-group.first (flat_map (wrong_member system group.kind) members)) c.items.ensures.items) c.loop-group.invariant
