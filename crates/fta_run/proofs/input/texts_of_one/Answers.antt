use Rattle.std.proofs.Common.{◌∙◌, ◌++◌, ◌∷◌, [], ap, subst}
use Rattle.phases.specs.inner.Meets.{Meets}
use Rattle.fta_run.specs.Due.{within_limits}
use Rattle.fta_run.proofs.input.texts_of_one.Goals as goal

pub returns : goal.returns
returns c =
    subst (λ texts. Meets (within_limits texts) c.texts_within.result) (c.in_ok-push.ensures.ok ∙ ap (λ front. front ++ c.args.text ∷ []) c.new-texts.ensures) c.texts_within.ensures
