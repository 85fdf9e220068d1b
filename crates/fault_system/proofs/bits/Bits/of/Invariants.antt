use Rattle.std.proofs.Common.{◌≡◌, ℕ, ◌||◌, length, drop}
use Rattle.fault_system.specs.Truth.{member, set_of}
use Rattle.fault_system.proofs.bits.Bits.of.Given as goal

abbrev pub invariant-loop-number : goal.invariant-loop-number
invariant-loop-number l =
    (length l.bits ≡ l.size) × ((n : ℕ) → member l.bits n || set_of (drop l.number-index l.numbers) n ≡ set_of l.numbers n)
