-- The lines that tell of the probability of a target.
use Rattle.std.specs.Prelude.{ℕ, Bool, true, false, List, [], ◌++◌, codes, decimal}
use Rattle.std.specs.List.{flat_map}
use Rattle.decimals.specs.DecimalTexts.{decimal_text}
use Rattle.probabilities.specs.declared.rates.Bounds.{Bounds}
use Rattle.event_probabilities.specs.declared.finding.Found.{Found}
use Rattle.event_probabilities.specs.declared.finding.Found.TheVariants.{Rated, WithoutRate, WithoutHours, NoProbability}
use Rattle.probability_lines.specs.declared.line.Line.{Line}
use Rattle.probability_lines.specs.declared.line.Line.TheVariants.{Hours, Unrated, ByOrder, Large, AtLeast, AtMost, Event, End}

-- why an event has no probability: its number is none that is read, or no probability, or no hours are given; of one without a rate nothing
-- more is said
abbrev pub reason_text : Found → List ℕ
reason_text Rated = []
reason_text WithoutRate = []
reason_text WithoutHours = codes " without-hours"
reason_text NoProbability = codes " not-a-probability"

-- the two bounds of a probability, with a blank between them
abbrev pub bounds_text : ℕ → Bounds → List ℕ
bounds_text whole bounds = decimal_text whole bounds.lower ++ (codes " " ++ decimal_text whole bounds.upper)

-- a name as it is, or in quotes
abbrev pub name_text : Bool → List ℕ → List ℕ
name_text false name = name
name_text true name = codes "\"" ++ (name ++ codes "\"")

-- the text of a line, in which names may stand in quotes
abbrev pub line_text : Bool → ℕ → Line → List ℕ
line_text quoted whole (Hours hours) = codes "hours " ++ (hours ++ codes "\n")
line_text quoted whole (Unrated name found) = codes "unrated " ++ (name_text quoted name ++ (reason_text found ++ codes "\n"))
line_text quoted whole (ByOrder most) = codes "by sets of at most " ++ (decimal most ++ codes " events\n")
line_text quoted whole Large = codes "large\nat-least 0\nat-most 1\n"
line_text quoted whole (AtLeast bound) = codes "at-least " ++ (decimal_text whole bound ++ codes "\n")
line_text quoted whole (AtMost bound) = codes "at-most " ++ (decimal_text whole bound ++ codes "\n")
line_text quoted whole (Event name never always) =
    codes "event " ++ (name_text quoted name ++ (codes " never " ++ (bounds_text whole never ++ (codes " always " ++ (bounds_text whole always ++ codes "\n")))))
line_text quoted whole End = codes "end\n"

-- the text of some lines
abbrev pub lines_text : Bool → ℕ → List Line → List ℕ
lines_text quoted whole lines = flat_map (line_text quoted whole) lines
