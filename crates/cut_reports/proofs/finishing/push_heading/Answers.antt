use Rattle.std.proofs.Common.{◌∙◌, ◌++◌, ap}
use Rattle.std.specs.Prelude.{codes, ◌∷◌, []}
use Rattle.cut_reports.proofs.Sequence.{heading}
use Rattle.cut_reports.proofs.finishing.push_heading.Goals as goal

pub returns : goal.returns
returns g c = heading _ _ _ _ (codes "report ") _ (10 ∷ []) c.in_ok-extend_from_slice.ensures.items c.in_ok-extend_from_slice-2.ensures.items c.in_ok-push.ensures.items
    ∙ ap (λ name. c.args.to.now.items ++ (codes "report " ++ name ++ 10 ∷ [])) c.name_of.ensures
