use Rattle.std.proofs.Common.{subst}
use Rattle.phases.specs.inner.Meets.{Meets}
use Rattle.fta_run.specs.Due.{made_of_texts}
use Rattle.fta_run.proofs.answering.made_at.Goals as goal

pub returns : goal.returns
returns g c = subst (λ texts. Meets (made_of_texts g.M.FromAssembly.phase c.args.profile c.args.root.now texts) c.model_of_texts.result) c.items.ensures.items c.model_of_texts.ensures
