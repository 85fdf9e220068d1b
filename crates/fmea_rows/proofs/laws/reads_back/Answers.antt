use Rattle.fmea_rows.proofs.LineLaws.{table-read}
use Rattle.fmea_rows.proofs.laws.reads_back.Goals as goal

pub returns : goal.returns
returns c = λ system rates rows names numbers. table-read system rates names numbers rows
