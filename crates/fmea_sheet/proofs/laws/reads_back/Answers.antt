use Rattle.fmea_sheet.proofs.SheetLaws.{sheet-read}
use Rattle.fmea_sheet.proofs.laws.reads_back.Goals as goal

pub returns : goal.returns
returns c = λ files texts model. sheet-read files texts model
