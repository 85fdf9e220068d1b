use Rattle.std.proofs.Common.{ℕ, ◌<◌}
use Rattle.fault_system.specs.Truth.{member}
use Rattle.fault_system.specs.Rounds.{time_of}
use Rattle.fault_system.specs.inner.Rounds.{FitsFact}
use Rattle.fault_system.proofs.system.FaultSystem.is_table.Given as goal

abbrev pub invariant-loop-number : goal.invariant-loop-number
invariant-loop-number l = (n : ℕ) → n < l.number → FitsFact l.self (member l.events) (time_of l.times) n
