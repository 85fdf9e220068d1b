use Rattle.phases.proofs.Steps.{◌passes◌, ends, exits}
use Rattle.fta_run.proofs.Names.{model_field_names}
use Rattle.fta_run.proofs.answering.table.Goals as goal

pub returns-in_err-model : goal.returns-in_err-model
returns-in_err-model c = exits _ _ _ _ _ c.from_residual.ensures.1 (ends c.in_err-model.ensures.meets)

pub table_of-requires-clause-names : goal.table_of-requires-clause-names
table_of-requires-clause-names c = model_field_names c.in_ok-model.model c.in_ok-model.ensures.plain

pub returns : goal.returns
returns c = c.in_ok-model.ensures.meets passes c.in_ok-lines.ensures
