use Rattle.std.proofs.Common.{List, ℕ, ◌∙◌, ap}
use Rattle.phases.proofs.Steps.{◌passes◌, ends, exits}
use Rattle.fta_run.specs.Due.{manifest_text}
use Rattle.fta_run.proofs.answering.manifest.Goals as goal

pub returns-in_err-model : goal.returns-in_err-model
returns-in_err-model c = exits _ _ _ _ _ c.from_residual.ensures.1 (ends c.in_err-model.ensures)

pub returns : goal.returns
returns c =
    c.in_ok-model.ensures passes record { passed = c.in_ok-text.ensures ∙ ap (λ (l : List (List ℕ)). manifest_text c.args.profile c.args.root.now c.args.names.now l c.in_ok-model.model) c.items.ensures.items }
