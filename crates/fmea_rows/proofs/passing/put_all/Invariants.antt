use Rattle.std.proofs.Common.{ℕ, ◌≡◌, ◌⊎◌, length}
use Rattle.fault_system.specs.Truth.{Has, member}
use Rattle.fmea_rows.proofs.passing.put_all.Given as goal

abbrev pub invariant-loop-number : goal.invariant-loop-number
invariant-loop-number l = record {
  size : length l.set ≡ length l.fn.set;
  put : (n : ℕ) → Has (member l.set) n → Has (member l.fn.set) n ⊎ Has (member l.more) n;
}
