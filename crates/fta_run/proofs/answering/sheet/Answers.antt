use Rattle.std.proofs.Common.{List, ℕ, ◌∙◌, ap}
use Rattle.phases.proofs.Steps.{◌passes◌, ends, exits}
use Rattle.fmea_sheet.specs.Text.{sheet_text}
use Rattle.fta_run.proofs.answering.sheet.Goals as goal

pub returns-in_err-model : goal.returns-in_err-model
returns-in_err-model c = exits _ _ _ _ _ c.from_residual.ensures.1 (ends c.in_err-model.ensures.meets)

pub returns : goal.returns
returns c =
    c.in_ok-model.ensures.meets passes record { passed = c.in_ok-lines.ensures ∙ ap (λ (texts : List (List ℕ)). sheet_text c.args.names.now texts c.in_ok-model.model) c.items.ensures.items }
