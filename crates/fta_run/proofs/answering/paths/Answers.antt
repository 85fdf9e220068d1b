use Rattle.phases.proofs.Steps.{◌beyond◌, ◌passes◌, ends, exits}
use Rattle.fta_run.proofs.Names.{model_text_names, model_token_names}
use Rattle.fta_run.proofs.answering.paths.Goals as goal

pub returns-in_err-model : goal.returns-in_err-model
returns-in_err-model c = exits _ _ _ _ _ c.from_residual.ensures.1 (ends c.in_err-model.ensures.meets)

pub paths-requires-clause-tokens : goal.paths-requires-clause-tokens
paths-requires-clause-tokens c = model_token_names c.in_ok-model.model c.in_ok-model.ensures.plain

pub paths-requires-clause-names : goal.paths-requires-clause-names
paths-requires-clause-names c = model_text_names c.in_ok-model.model c.in_ok-model.ensures.plain

pub returns-in_err-page : goal.returns-in_err-page
returns-in_err-page c = exits _ _ _ _ _ c.from_residual-in_err-page.ensures.1 (c.in_ok-model.ensures.meets beyond c.in_err-page.ensures)

pub returns : goal.returns
returns c = c.in_ok-model.ensures.meets passes c.in_ok-page.ensures
