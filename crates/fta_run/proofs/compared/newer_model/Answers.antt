use Rattle.std.proofs.Common.{List, ℕ, subst}
use Rattle.phases.specs.inner.Meets.{Meets}
use Rattle.fta_run.specs.Due.{model_of_texts}
use Rattle.fta_run.specs.Later.{in_later_files}
use Rattle.fta_run.proofs.compared.newer_model.Goals as goal

pub returns : goal.returns
returns c =
    subst (λ (texts : List (List ℕ)). Meets (in_later_files c.args.count (model_of_texts c.args.profile c.args.root.now texts)) c.later_model.result) c.behind.ensures.texts c.later_model.ensures.meets
