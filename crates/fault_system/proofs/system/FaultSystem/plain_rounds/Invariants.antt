use Rattle.fault_system.specs.Truth.{member}
use Rattle.fault_system.specs.inner.Rounds.{IsTableTo}
use Rattle.fault_system.proofs.system.FaultSystem.plain_rounds.Given as goal

abbrev pub invariant-loop-round : goal.invariant-loop-round
invariant-loop-round l = IsTableTo l.self (member l.events) l.times.items l.round
