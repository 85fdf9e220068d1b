use Rattle.std.proofs.Common.{◌≡◌, Err, ap, ◌∙◌}
use Rattle.phases.specs.declared.status.Status.TheVariants.{Refused}
use Rattle.fta_run.specs.Due.{model_of_texts, units_of}
use Rattle.fta_run.proofs.Refusals.{tested_tells}
use Rattle.fta_run.proofs.refused.refusals_text.Goals as goal

pub returns-in-Err-Refused : goal.returns-in-Err-Refused
returns-in-Err-Refused c =
    let root = c.args.root.now in
    let texts = c.args.texts.now in
    let tested = c.told_model-tested.result in
    let refusal = c.in-Err-Refused.refusal in
    let same : c.in-Err-Refused.field-0 ≡ Refused refusal = rw c.in-Err-Refused.is at c.in-Err-Refused.field-0-is in
    tested_tells (λ text. text.items) (model_of_texts c.args.profile root texts) (units_of texts) c.args.profile root c.args.files.now texts tested refusal c.told_model-tested.new.refusals c.group_text.result (c.in-Err-Refused.is ∙ ap Err same) c.told_model-tested.ensures.made c.told_model-tested.ensures.told c.group_text.ensures
