use Rattle.std.proofs.Common.{◌⊎◌, List, ℕ, subst}
use Rattle.phases.specs.Phases.{Passes, Stops}
use Rattle.phases.specs.inner.Meets.{IsMemory}
use Rattle.phases.proofs.Steps.{exits}
use Rattle.fta_run.specs.Due.{sets_of_tree}
use Rattle.fta_run.proofs.answering.sets_of_tree.Goals as goal

pub returns-in_err-page : goal.returns-in_err-page
returns-in_err-page c =
    let status = c.in_err-page.field-0.0 in
    exits _ _ _ _ _ c.from_residual.ensures.1 (subst (λ (text : List ℕ). Stops (sets_of_tree c.args.paths c.args.wide c.args.limit c.args.max_order text) status ⊎ IsMemory status) c.first.ensures.text c.in_err-page.ensures)

pub returns : goal.returns
returns c = subst (λ (text : List ℕ). Passes (sets_of_tree c.args.paths c.args.wide c.args.limit c.args.max_order text) c.in_ok-page.page) c.first.ensures.text c.in_ok-page.ensures
