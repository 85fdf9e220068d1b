-- The text of an FMEA sheet: a line of the columns, and a line for each event.
use Rattle.std.specs.Prelude.{ℕ, List, [], ◌∷◌, ◌++◌, codes, decimal, length, slice_get, slice_index_or, Option, None, Some, option_and_then}
use Rattle.std.specs.List.{flat_map}
use Rattle.csv.specs.Writing as Csv
use Rattle.plain_values.specs.Numbered.{numbers_below}
use Rattle.plain_values.specs.declared.spot.Spot.{Spot}
use Rattle.text_places.specs.Places.{column, line_number}
use Rattle.event_origins.specs.declared.origin.EventOrigin.{EventOrigin}
use Rattle.sheet_model.specs.declared.model.SheetModel.{SheetModel}
use Rattle.fmea_sheet.specs.Cells.{effect_fields, event_fields, rate_fields, reached_by}

-- ---- places

-- the place of a byte in a file with this text: `FILE:LINE:COLUMN`
abbrev pub place_text : List ℕ → List ℕ → ℕ → List ℕ
place_text file text at = file ++ ((58 ∷ decimal (line_number text at)) ++ (58 ∷ decimal (column text at)))

-- the same, where there is such a text
abbrev pub place_in : List ℕ → Option (List ℕ) → ℕ → List ℕ
place_in file None at = []
place_in file (Some text) at = place_text file text at

-- where that stands which has a spot, in files of these names and texts; nothing where it has none
abbrev pub spot_text : List (List ℕ) → List (List ℕ) → Option Spot → List ℕ
spot_text files texts None = []
spot_text files texts (Some spot) = place_in (slice_index_or files spot.file []) (slice_get texts spot.file) spot.at

-- where the declaration of an event stands, in files of these names and texts
abbrev pub place_of : List (List ℕ) → List (List ℕ) → List EventOrigin → ℕ → List ℕ
place_of files texts origins event = spot_text files texts (option_and_then (λ origin. origin.spot) (slice_get origins event))

-- ---- lines

-- the names of the columns
abbrev pub header : List (List ℕ)
header =
    codes "component" ∷ codes "category" ∷ codes "classifier" ∷ codes "event" ∷ codes "rate_kind" ∷ codes "rate_value" ∷ codes "local_effect" ∷ codes "next_effect"
    ∷ codes "end_effect" ∷ codes "place" ∷ []

-- the fields of the line of an event that reaches these effects alone, and whose declaration stands at this place
abbrev pub fields_with : SheetModel → ℕ → List ℕ → List ℕ → List (List ℕ)
fields_with model event reached place = event_fields model event ++ (rate_fields model event ++ (effect_fields model event reached ++ place ∷ []))

-- The fields of the line of an event, in files of these names and texts.
abbrev pub line_fields : List (List ℕ) → List (List ℕ) → SheetModel → ℕ → List (List ℕ)
line_fields files texts model event = fields_with model event (reached_by model.events.flat event) (place_of files texts model.events.origins event)

-- the line of some fields (RFC 4180): a comma between each two, quotes around one that needs them, and a line feed
abbrev pub line_text : List (List ℕ) → List ℕ
line_text fields = Csv.row_text Csv.default_writer fields

-- The text of an FMEA sheet of a model in files of these names and texts: the line of the columns, and the line of each event, in order.
abbrev pub sheet_text : List (List ℕ) → List (List ℕ) → SheetModel → List ℕ
sheet_text files texts model = line_text header ++ flat_map (λ event. line_text (line_fields files texts model event)) (numbers_below (length model.events.flat.system.events))
