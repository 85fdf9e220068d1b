use Rattle.fta_run.proofs.DerivationLaws.{holds-where-confirmed}
use Rattle.fta_run.proofs.laws.holds_where_confirmed.Goals as goal

pub returns : goal.returns
returns c = holds-where-confirmed
