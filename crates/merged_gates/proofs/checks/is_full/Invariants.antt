use Rattle.std.proofs.Common.{ℕ, ◌≡◌, ◌<◌, true}
use Rattle.fault_system.specs.Truth.{member}
use Rattle.merged_gates.proofs.checks.is_full.Given as goal

abbrev pub invariant-loop-n : goal.invariant-loop-n
invariant-loop-n l = (k : ℕ) → k < l.n → member l.marks k ≡ true
