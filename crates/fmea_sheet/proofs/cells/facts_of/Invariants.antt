use Rattle.std.proofs.Common.{◌≡◌, ◌==◌, take}
use Rattle.std.specs.Prelude.{filter}
use Rattle.fmea_sheet.specs.Cells.{is_of}
use Rattle.fmea_sheet.proofs.cells.facts_of.Given as goal

abbrev pub invariant-loop-fact : goal.invariant-loop-fact
invariant-loop-fact l = l.found ≡ filter (is_of (λ owner. owner == l.component) l.system) (take l.fact-index l.facts)
