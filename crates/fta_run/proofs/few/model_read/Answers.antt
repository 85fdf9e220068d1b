use Rattle.std.proofs.Common.{subst}
use Rattle.phases.specs.inner.Meets.{IsMemory, Meets}
use Rattle.phases.proofs.Steps.{ends, exits, meets_later}
use Rattle.fta_run.specs.Due.{model_of_texts}
use Rattle.fta_run.specs.Forms.{profile_of}
use Rattle.fta_run.specs.inner.Read.{few_texts}
use Rattle.fta_run.proofs.few.model_read.Goals as goal

pub returns-in_err-check_few : goal.returns-in_err-check_few
returns-in_err-check_few c = exits _ _ _ _ _ c.from_residual.ensures.1 (ends c.in_err-check_few.ensures.tested)

pub returns : goal.returns
returns c =
    let profile = profile_of c.args.form.now in
    let made = subst (λ its. Meets (model_of_texts its c.args.root.now c.args.texts.now) c.model_of_texts.result) c.profile_of.ensures c.model_of_texts.ensures in
    meets_later IsMemory (λ made. made) (few_texts c.args.texts.now) (model_of_texts profile c.args.root.now) c.args.texts.now c.model_of_texts.result (λ s memory. memory) c.in_ok-check_few.ensures.tested made
