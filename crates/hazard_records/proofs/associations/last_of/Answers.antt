use Rattle.std.proofs.Common.{Bool, Some, ap, cond, option_copied, ◌∙◌}
use Rattle.hazard_records.specs.Targets.{says_of}
use Rattle.hazard_records.proofs.LastLaws.{last-more}
use Rattle.hazard_records.proofs.associations.last_of.Goals as goal

pub loop-association-preserved : goal.loop-association-preserved
loop-association-preserved c =
    let one = c.association-item.result in
    let before = option_copied c.loop-association.found in
    last-more (says_of c.args.profile c.args.word.now c.args.text.now) c.args.associations.now c.loop-association.association-index one c.loop-association-test.true c.association-item.is before
    (option_copied c.later-found.result) c.loop-association.invariant (c.later-found.ensures ∙ ap (λ (b : Bool). cond b (Some one.now) before) c.in_ok-is_so.ensures)
