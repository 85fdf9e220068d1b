use Rattle.std.proofs.Common.{subst}
use Rattle.phases.specs.inner.Meets.{Meets}
use Rattle.fta_run.specs.Due.{model_of_texts}
use Rattle.fta_run.proofs.answering.model_at.Goals as goal

pub returns : goal.returns
returns c = subst (λ texts. Meets (model_of_texts c.args.profile c.args.root.now texts) c.model_of_texts.result) c.items.ensures.items c.model_of_texts.ensures
