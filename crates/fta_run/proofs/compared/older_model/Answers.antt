use Rattle.std.proofs.Common.{List, ℕ, subst}
use Rattle.phases.specs.inner.Meets.{Meets}
use Rattle.fta_run.specs.Due.{model_of_texts}
use Rattle.fta_run.proofs.compared.older_model.Goals as goal

pub returns : goal.returns
returns c = subst (λ (texts : List (List ℕ)). Meets (model_of_texts c.args.profile c.args.root.now texts) c.model_of_texts.result) c.before-2.ensures.texts c.model_of_texts.ensures
