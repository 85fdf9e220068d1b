-- Which facts may come about, and which always hold.
use Rattle.std.specs.Prelude.{true}
use Rattle.fault_system.specs.Truth.{NumberSet, member}
use Rattle.fault_system.specs.Systems.{System, holds_of}
use Rattle.fault_system.specs.Rounds.{no_event}

-- the facts that hold when all events occur, as a test
abbrev pub possible_in : System → NumberSet
possible_in system = member (holds_of system (λ event. true))

-- the facts that hold where no event occurs, as a test
abbrev pub always_in : System → NumberSet
always_in system = member (holds_of system no_event)
