use Rattle.fmea_rows.proofs.RowLaws.{rows-same}
use Rattle.fmea_rows.proofs.laws.one_table.Goals as goal

pub returns : goal.returns
returns c = rows-same
