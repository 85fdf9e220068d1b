use Rattle.fta_run.proofs.DerivationLaws.{confirms-why}
use Rattle.fta_run.proofs.laws.confirms_why.Goals as goal

pub returns : goal.returns
returns c = confirms-why
