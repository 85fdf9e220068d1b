use Rattle.std.proofs.Common.{◌≡◌, take}
use Rattle.fmea_sheet.proofs.places.tables_of.Given as goal

abbrev pub invariant-loop-text : goal.invariant-loop-text
invariant-loop-text l = l.tables ≡ take l.text-index l.texts
