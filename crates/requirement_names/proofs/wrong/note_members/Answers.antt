use Rattle.requirement_names.specs.Wrong.{wrong_member}
use Rattle.requirement_names.proofs.Loops.{noting-more}
use Rattle.requirement_names.proofs.wrong.note_members.Goals as goal

pub loop-member-preserved : goal.loop-member-preserved
loop-member-preserved c =
    noting-more c.args.members.now c.loop-member.member-index c.member-item.result c.loop-member-test.true c.member-item.is (wrong_member c.args.model.now c.args.kind) c.loop-member.first _ _ c.in_ok-note_member.ensures c.loop-member.invariant
