use Rattle.std.proofs.Common.{◌≡◌, take}
use Rattle.std.specs.Prelude.{filter}
use Rattle.fault_system.specs.Truth.{set_of}
use Rattle.fmea_sheet.specs.Cells.{is_of}
use Rattle.fmea_sheet.proofs.cells.facts_in.Given as goal

abbrev pub invariant-loop-fact : goal.invariant-loop-fact
invariant-loop-fact l = l.found ≡ filter (is_of (set_of l.components) l.system) (take l.fact-index l.facts)
