use Rattle.noted_refusals.proofs.Loops.{noting-more}
use Rattle.component_extension.proofs.limits.note_all.Goals as goal

pub loop-member-preserved : goal.loop-member-preserved
loop-member-preserved g c =
    noting-more c.args.members.now c.loop-member.member-index c.member-item.result c.loop-member-test.true c.member-item.is g.M.Limited.limits c.loop-member.refusals _ _ c.note_limits.ensures c.loop-member.invariant
