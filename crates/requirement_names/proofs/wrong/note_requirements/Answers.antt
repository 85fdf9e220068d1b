use Rattle.requirement_names.specs.Wrong.{wrong_words}
use Rattle.requirement_names.proofs.Loops.{noting-more}
use Rattle.requirement_names.proofs.wrong.note_requirements.Goals as goal

pub loop-requirement-preserved : goal.loop-requirement-preserved
loop-requirement-preserved c =
    noting-more c.args.requirements.now c.loop-requirement.requirement-index c.requirement-item.result c.loop-requirement-test.true c.requirement-item.is (wrong_words c.args.model.now c.args.groups.now) c.loop-requirement.first _ _ c.in_ok-note_requirement.ensures c.loop-requirement.invariant
