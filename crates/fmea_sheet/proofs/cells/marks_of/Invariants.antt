use Rattle.std.proofs.Common.{ℕ, ◌≡◌, ◌<◌, length, take}
use Rattle.fault_system.specs.Truth.{member, set_of}
use Rattle.fmea_sheet.proofs.cells.marks_of.Given as goal

abbrev pub invariant-loop-number : goal.invariant-loop-number
invariant-loop-number l = record { size : length l.marks ≡ l.count; marks : (k : ℕ) → k < l.count → member l.marks k ≡ set_of (take l.number-index l.numbers) k }
