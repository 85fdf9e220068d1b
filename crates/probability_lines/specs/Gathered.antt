-- Which lines tell of the probability of a target.
use Rattle.std.specs.Prelude.{ℕ, List, [], ◌∷◌, ◌++◌, Option, None, Some, slice_index_or}
use Rattle.std.specs.List.{flat_map}
use Rattle.fault_system.specs.Systems.{System, event_name}
use Rattle.probabilities.specs.declared.rates.Bounds.{Bounds}
use Rattle.event_probabilities.specs.declared.finding.Found.{Found}
use Rattle.event_probabilities.specs.declared.finding.Found.TheVariants.{Rated, WithoutRate, WithoutHours, NoProbability}
use Rattle.probability_lines.specs.declared.line.EventImportance.{EventImportance}
use Rattle.probability_lines.specs.declared.line.Line.{Line}
use Rattle.probability_lines.specs.declared.line.Line.TheVariants.{Hours, Unrated, ByOrder, Large, AtLeast, AtMost, Event, End}

-- the line of the hours, if they are given
abbrev pub hours_lines : Option (List ℕ) → List Line
hours_lines None = []
hours_lines (Some hours) = Hours hours ∷ []

-- the line of an event that has no probability
abbrev pub unrated_lines : System → ℕ → Found → List Line
unrated_lines system number Rated = []
unrated_lines system number WithoutRate = Unrated (event_name system number) WithoutRate ∷ []
unrated_lines system number WithoutHours = Unrated (event_name system number) WithoutHours ∷ []
unrated_lines system number NoProbability = Unrated (event_name system number) NoProbability ∷ []

-- the line of an event, where it has none by what is found of each event
abbrev pub unrated_at : System → List Found → ℕ → List Line
unrated_at system found number = unrated_lines system number (slice_index_or found number Rated)

-- the line of an event's importance
abbrev pub event_lines : System → EventImportance → List Line
event_lines system its = Event (event_name system its.event) its.both.never its.both.always ∷ []

-- the line of the greatest number of events of a set, if it is given
abbrev pub order_lines : Option ℕ → List Line
order_lines None = []
order_lines (Some most) = ByOrder most ∷ []

-- the lines of the two bounds; where none are found, they are 0 and 1
abbrev pub bounds_lines : Option Bounds → List Line
bounds_lines None = Large ∷ []
bounds_lines (Some bounds) = AtLeast bounds.lower ∷ (AtMost bounds.upper ∷ [])

-- all lines: the hours, those of these events that have no probability, the greatest number of events of a set, the bounds, the importance
-- of events, and the end
abbrev pub lines_of : System → Option (List ℕ) → List ℕ → List Found → Option ℕ → Option Bounds → List EventImportance → List Line
lines_of system hours events found most bounds importances =
    hours_lines hours ++ (flat_map (unrated_at system found) events ++ (order_lines most ++ (bounds_lines bounds ++ (flat_map (event_lines system) importances ++ (End ∷ [])))))
