use Rattle.std.proofs.Common.{◌∙◌, ap, List, ℕ}
use Rattle.std.proofs.lemmas.Result.{IfOk-weaker}
use Rattle.dot_writer.specs.TreePicture.{dot_text}
use Rattle.system_answers.proofs.trees.picture.Goals as goal

pub returns : goal.returns
returns c =
    IfOk-weaker c.new.result _ _
    (λ text is. is ∙ ap (λ (name : List ℕ). dot_text c.args.system c.args.tree c.args.rates (record { target = name; legend = c.args.legend })) (c.in_ok-name.ensures ∙ c.fact_name.ensures)) c.new.ensures.text
