-- Beside specs/Possible.antt: what no clause of `run` reaches.
use Rattle.std.specs.Prelude.{ℕ}
use Rattle.fault_system.specs.Truth.{NumberSet}
use Rattle.fault_system.specs.Systems.{System, Holds}

-- a fact may come about if it holds under some set of events
abbrev pub IsPossible : System → ℕ → Type 0
IsPossible system n = (events : NumberSet) × Holds system events n

-- a fact always holds if it does so under each set of events
abbrev pub IsAlways : System → ℕ → Type 0
IsAlways system n = (events : NumberSet) → Holds system events n
