use Rattle.std.proofs.Common.{◌≡◌, ◌≤◌, ◌+◌, drop}
use Rattle.fault_system.specs.Truth.{count_true}
use Rattle.backward_slice.proofs.reaching.count.Given as goal

abbrev pub invariant-loop-number : goal.invariant-loop-number
invariant-loop-number l = (l.count ≤ l.number) × (l.count + count_true (drop l.number l.marks) ≡ count_true l.marks)
