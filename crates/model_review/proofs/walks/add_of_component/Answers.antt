use Rattle.std.proofs.Common.{◌++◌, ap, ◌∙◌, sym}
use Rattle.std.proofs.lemmas.List.{append-nil}
use Rattle.error_models.specs.declared.model.ErrorModel.{ErrorModel}
use Rattle.model_review.proofs.walks.add_of_component.Goals as goal

pub returns-in-None : goal.returns-in-None
returns-in-None g c =
    let told = c.args.told.now in
    let seen = c.args.view.now in
    let found = c.args.found.now in
    sym (ap (λ (model : ErrorModel). found ++ g.F.ComponentFinding.finding told seen c.args.owner model) (sym c.in-None.ensures)
    ∙ ap (λ more. found ++ more) (g.met.F.ComponentFinding.nothing told seen c.args.owner) ∙ append-nil found)
