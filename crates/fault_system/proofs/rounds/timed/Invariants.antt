use Rattle.std.proofs.Common.{ℕ, ◌≡◌, ◌<◌, ◌≤◌, false, length}
use Rattle.fault_system.specs.Truth.{member}
use Rattle.fault_system.specs.Rounds.{time_of}
use Rattle.fault_system.specs.inner.Rounds.{ever}
use Rattle.fault_system.proofs.rounds.timed.Given as goal

abbrev pub invariant-loop-number : goal.invariant-loop-number
invariant-loop-number l = record {
  size : length l.facts ≡ length l.times;
  done : (n : ℕ) → n < l.number → member l.facts n ≡ ever (time_of l.times) n;
  later : (n : ℕ) → l.number ≤ n → member l.facts n ≡ false;
}
