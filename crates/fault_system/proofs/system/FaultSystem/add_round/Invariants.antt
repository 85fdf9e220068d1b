use Rattle.fault_system.specs.Truth.{member}
use Rattle.fault_system.proofs.NextRound.{NextTo}
use Rattle.fault_system.proofs.system.FaultSystem.add_round.Given as goal

abbrev pub invariant-loop-number : goal.invariant-loop-number
invariant-loop-number l = NextTo l.self (member l.events) l.fn.times l.round l.times l.number
