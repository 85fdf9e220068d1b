-- The texts of sets of events, which are page tokens.
use Rattle.std.specs.Prelude.{ℕ, ◌≡◌, List, [], ◌∷◌, ◌++◌, map, codes}
use Rattle.std.specs.List.{flat_map, join_with_byte}
use Rattle.fault_system.specs.Systems.{System, event_name}
use Rattle.fault_system.specs.CutSets.{IsEventSet}

-- a set's text: the names of its events in order with `+` between them, or `none` for the empty set
abbrev pub set_text : System → List ℕ → List ℕ
set_text system [] = codes "none"
set_text system (event ∷ events) = join_with_byte 43 (map (event_name system) (event ∷ events))

-- the name of an event between quotes, behind a blank
abbrev pub quoted_name : System → ℕ → List ℕ
quoted_name system event = 32 ∷ 34 ∷ event_name system event ++ (34 ∷ [])

-- a set's text in quotes: the names of its events in order, each between quotes and behind a blank, or ` none` for the empty set
abbrev pub quoted_text : System → List ℕ → List ℕ
quoted_text system [] = codes " none"
quoted_text system (event ∷ events) = flat_map (quoted_name system) (event ∷ events)

-- the set is a rising list of events of the system, and has this text
abbrev pub IsSetOfText : System → List ℕ → List ℕ → Type 0
IsSetOfText system text set = IsEventSet system set × (set_text system set ≡ text)
