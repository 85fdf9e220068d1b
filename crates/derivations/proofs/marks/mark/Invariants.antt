use Rattle.std.proofs.Common.{ℕ, ◌≡◌, ◌<◌, ◌||◌, length, drop}
use Rattle.fault_system.specs.Truth.{member, set_of}
use Rattle.derivations.proofs.marks.mark.Given as goal

abbrev pub invariant-loop-number : goal.invariant-loop-number
invariant-loop-number l =
    (n : ℕ) → n < length l.marks → member l.marks n || set_of (drop l.number-index l.numbers) n ≡ set_of l.numbers n
