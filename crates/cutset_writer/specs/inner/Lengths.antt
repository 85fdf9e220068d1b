-- How long the line of a set may be.
use Rattle.std.specs.Prelude.{ℕ, ◌+◌, List, [], ◌∷◌, length}
use Rattle.fault_system.specs.Systems.{System}
use Rattle.fault_system.specs.declared.formula.EventInfo.{EventInfo}

-- the bytes of the names of events, and three more for each
abbrev pub names_room : List EventInfo → ℕ
names_room [] = 0
names_room (event ∷ events) = (length event.name + 3) + names_room events

-- those of all events, and 64 for the number, the blank, the word `none` and the line feed
abbrev pub most_line : System → ℕ
most_line system = 64 + names_room system.events
