-- In which round a fact comes to hold.
use Rattle.std.specs.Prelude.{ℕ, zero, suc, ◌<◌, ◌≡◌, ◌==◌, false, List, length, slice_index_or}
use Rattle.fault_system.specs.Truth.{NumberSet, Has, member}
use Rattle.fault_system.specs.Systems.{System, Holds, round}

-- a fact holds after so many rounds, and after no fewer
pub record IsLeastRound (system : System) (events : NumberSet) (n r : ℕ) : Type 0 where
  pub there : Has (member (round system events r)) n
  pub first : (q : ℕ) → q < r → member (round system events q) n ≡ false

-- the round of a fact under a set of events; 0 where it does not hold
abbrev pub IsRoundOf : System → NumberSet → ℕ → ℕ → Type 0
IsRoundOf system events n zero = Holds system events n → ⊥
IsRoundOf system events n (suc r) = IsLeastRound system events n (suc r)

-- the time of a fact in a table; 0 where it has none
abbrev pub time_of : List ℕ → ℕ → ℕ
time_of times n = slice_index_or times n 0

-- the rounds of all facts, in their order
pub record AreRounds (system : System) (events : NumberSet) (times : List ℕ) : Type 0 where
  pub count : length times ≡ length system.facts
  pub each : (n : ℕ) → IsRoundOf system events n (time_of times n)

-- the set of one event
abbrev pub only : ℕ → NumberSet
only event n = n == event

-- the set of no event
abbrev pub no_event : NumberSet
no_event n = false
