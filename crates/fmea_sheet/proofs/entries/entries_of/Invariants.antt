use Rattle.std.proofs.Common.{◌≡◌, map}
use Rattle.plain_values.specs.Numbered.{numbers_below}
use Rattle.fmea_sheet.specs.inner.Written.{entry_of}
use Rattle.fmea_sheet.proofs.entries.entries_of.Given as goal

abbrev pub invariant-loop-event : goal.invariant-loop-event
invariant-loop-event l = l.entries ≡ map (entry_of l.fn.files l.fn.texts l.fn.model) (numbers_below l.event)
