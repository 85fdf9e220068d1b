use Rattle.phases.proofs.Steps.{◌passes◌, ends, exits}
use Rattle.fta_run.proofs.answering.targets.Goals as goal

pub returns-in_err-model : goal.returns-in_err-model
returns-in_err-model c = exits _ _ _ _ _ c.from_residual.ensures.1 (ends c.in_err-model.ensures.meets)

pub returns : goal.returns
returns c = c.in_ok-model.ensures.meets passes c.in_ok-text.ensures
