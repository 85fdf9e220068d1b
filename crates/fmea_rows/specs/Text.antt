-- The text of an FMEA table: lines of fields with commas between them.
use Rattle.std.specs.Prelude.{ℕ, ◌==◌, List, [], ◌∷◌, ◌++◌, map, codes, decimal, slice_index_or}
use Rattle.std.specs.List.{before_first, flat_map, join_with_byte}
use Rattle.fault_system.specs.Systems.{System, event_name, fact_name}
use Rattle.property_reader.specs.Rates.{conservative_rate, rate_word}
use Rattle.property_reader.specs.declared.rate.Rate.{Rate}
use Rattle.fmea_rows.specs.declared.row.Row.{Row}

-- a rate: the word of its kind, and its number
abbrev pub rate_text : Rate → List ℕ
rate_text rate = rate_word rate.kind ++ rate.text

-- the rate of an event; the conservative one where none is given
abbrev pub rate_of : List Rate → ℕ → Rate
rate_of rates event = slice_index_or rates event conservative_rate

-- the path of the component that has an event: what stands before the first `/` of the event's name
abbrev pub component_of : List ℕ → List ℕ
component_of name = before_first (λ byte. byte == 47) name

-- the names of the columns
abbrev pub header : List (List ℕ)
header = codes "component" ∷ codes "event" ∷ codes "rate" ∷ codes "effect" ∷ codes "round" ∷ []

-- the fields of a row
abbrev pub row_fields : System → List Rate → Row → List (List ℕ)
row_fields system rates row =
    component_of (event_name system row.event) ∷ event_name system row.event ∷ rate_text (rate_of rates row.event)
    ∷ fact_name system row.effect ∷ decimal row.round ∷ []

-- a line: its fields with a comma between each two, and a line feed
abbrev pub line_text : List (List ℕ) → List ℕ
line_text fields = join_with_byte 44 fields ++ codes "\n"

-- a table: the line of the columns, and a line for each row
abbrev pub table_text : System → List Rate → List Row → List ℕ
table_text system rates rows = flat_map line_text (header ∷ map (row_fields system rates) rows)
