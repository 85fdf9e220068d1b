use Rattle.fta_run.proofs.Names.{plain_sheets}
use Rattle.fta_run.proofs.answering.sheet_model.Goals as goal

pub returns-clause-plain : goal.returns-clause-plain
returns-clause-plain c = plain_sheets c.args.profile c.args.root.now c.args.texts.now c.made_at.result c.made_at.ensures
