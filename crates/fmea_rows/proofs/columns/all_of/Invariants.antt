use Rattle.std.proofs.Common.{ℕ, ◌≡◌, ◌<◌, length}
use Rattle.fault_system.specs.Truth.{Has, member}
use Rattle.fmea_rows.proofs.columns.all_of.Given as goal

abbrev pub invariant-loop-number : goal.invariant-loop-number
invariant-loop-number l = record {
  size : length l.all ≡ l.size;
  all : (n : ℕ) → n < l.number → Has (member l.all) n;
}
