-- What one event or one fact makes hold by itself, and what is so where a system says all that it may.
use Rattle.std.specs.Prelude.{ℕ, zero, suc, ◌&&◌, ◌||◌, Bool, false, List, length, slice_get}
use Rattle.std.specs.Option.{option_map_or}
use Rattle.fault_system.specs.Truth.{NumberSet, member, set_of, truth}
use Rattle.fault_system.specs.Systems.{System, applied}
use Rattle.fault_system.specs.Rounds.{no_event, only}

-- the set of no fact
abbrev pub no_fact : NumberSet
no_fact n = false

-- whether the formula of a fact is true where this event alone occurs, and no fact holds
abbrev pub made_by_event : System → ℕ → ℕ → Bool
made_by_event system target event = option_map_or (λ fact. truth (only event) no_fact fact.formula) (slice_get system.facts target) false

-- the facts of a set, and those among some whose formulas are true where these hold and no event occurs
abbrev pub and_next : System → List ℕ → NumberSet → NumberSet
and_next system among facts n = facts n || (set_of among n && member (applied system no_event facts) n)

-- what follows from a fact by way of some others, in so many rounds
abbrev pub following : System → List ℕ → ℕ → ℕ → NumberSet
following system among cause zero = only cause
following system among cause (suc r) = and_next system among (following system among cause r)

-- Whether a fact makes another one hold by itself, by way of some facts alone: the formula of the other is true where what follows
-- from the one holds, and no event occurs.
abbrev pub made_by_fact : System → List ℕ → ℕ → ℕ → Bool
made_by_fact system among target cause = member (applied system no_event (following system among cause (length among))) target
