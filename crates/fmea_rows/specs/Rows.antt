-- The rows of an FMEA table: which effects each event reaches alone, and in which round.
use Rattle.std.specs.Prelude.{ℕ, ◌+◌, ◌&&◌, Bool, not, List, length, map, filter}
use Rattle.std.specs.List.{flat_map, position_or_len}
use Rattle.plain_values.specs.Numbered.{numbers_below}
use Rattle.fault_system.specs.Truth.{NumberSet, member}
use Rattle.fault_system.specs.Systems.{System, round}
use Rattle.fault_system.specs.CutSets.{makes_hold}
use Rattle.fault_system.specs.Rounds.{no_event, only}
use Rattle.fmea_rows.specs.declared.row.Row.{Row}

-- ---- the rows computed

-- whether a fact holds under an event alone and not under no event
abbrev pub is_reached : System → ℕ → ℕ → Bool
is_reached system event fact = makes_hold system fact (only event) && not (makes_hold system fact no_event)

-- the first round after which a fact holds, of those up to the number of facts, after which each holds that ever does
abbrev pub round_of : System → NumberSet → ℕ → ℕ
round_of system events fact = position_or_len (λ r. member (round system events r) fact) (numbers_below (length system.facts + 1))

-- the row of an event and a fact
abbrev pub row_of : System → ℕ → ℕ → Row
row_of system event fact = record { event = event; effect = fact; round = round_of system (only event) fact }

-- the rows of an event: a row for each effect that it reaches, in their order
abbrev pub event_rows : System → List ℕ → ℕ → List Row
event_rows system effects event = map (row_of system event) (filter (is_reached system event) effects)

-- the rows of all events, in their order
abbrev pub rows_of : System → List ℕ → List Row
rows_of system effects = flat_map (event_rows system effects) (numbers_below (length system.events))
