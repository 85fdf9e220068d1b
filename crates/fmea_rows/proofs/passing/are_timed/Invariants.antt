use Rattle.std.proofs.Common.{ℕ, take}
use Rattle.fault_system.specs.Truth.{Has, member, set_of}
use Rattle.fault_system.specs.Rounds.{time_of}
use Rattle.fault_system.specs.inner.Rounds.{ever}
use Rattle.fmea_rows.proofs.passing.are_timed.Given as goal

abbrev pub invariant-loop-fact : goal.invariant-loop-fact
invariant-loop-fact l = (n : ℕ) → Has (set_of (take l.fact-index l.facts)) n → Has (member l.set) n → Has (ever (time_of l.times)) n
