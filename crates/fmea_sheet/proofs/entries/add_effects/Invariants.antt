use Rattle.std.proofs.Common.{take}
use Rattle.fmea_sheet.specs.inner.Written.{AddsEffects}
use Rattle.fmea_sheet.proofs.entries.add_effects.Given as goal

abbrev pub invariant-loop-row : goal.invariant-loop-row
invariant-loop-row l = AddsEffects (take l.row-index l.rows) l.initial.lists l.lists
