use Rattle.fmea_sheet.proofs.SheetLaws.{all-left}
use Rattle.fmea_sheet.proofs.sheet_lines.SheetLines.new.Goals as goal

pub returns : goal.returns
returns c = all-left c.args.files.now c.args.texts.now c.args.model c.in_ok-entries.entries c.in_ok-entries.ensures
