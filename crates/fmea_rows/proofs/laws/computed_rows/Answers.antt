use Rattle.fmea_rows.proofs.RowLaws.{rows-exact}
use Rattle.fmea_rows.proofs.laws.computed_rows.Goals as goal

pub returns : goal.returns
returns c = rows-exact
