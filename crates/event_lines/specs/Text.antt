-- The text on the events of a model.
use Rattle.std.specs.Prelude.{ℕ, List, [], ◌∷◌, ◌++◌, codes, decimal, length, slice_get, slice_index_or, unwrap_or, Option, None, Some}
use Rattle.std.specs.List.{flat_map}
use Rattle.plain_values.specs.Numbered.{numbers_below}
use Rattle.plain_values.specs.declared.spot.Spot.{Spot}
use Rattle.fault_system.specs.Systems.{event_name}
use Rattle.fmea_rows.specs.Text.{rate_of, rate_text}
use Rattle.event_origins.specs.declared.origin.EventOrigin.{EventOrigin}
use Rattle.event_origins.specs.declared.origin.OriginKind.{OriginKind}
use Rattle.event_origins.specs.declared.origin.OriginKind.TheVariants.{Error, Source, External}
use Rattle.model_phases.specs.declared.events.EventModel.{EventModel}

-- the file word of a number, as it was written
abbrev pub file_word : List (List ℕ) → ℕ → List ℕ
file_word files number = unwrap_or (slice_get files number) []

-- the word of a kind
abbrev pub kind_word : OriginKind → List ℕ
kind_word Error = codes "error"
kind_word Source = codes "source"
kind_word External = codes "external"

-- the origin of an event; there is one for each
abbrev pub origin_at : List EventOrigin → ℕ → EventOrigin
origin_at origins event = slice_index_or origins event (record { kind = Error; spot = None })

-- a byte of a file: `FILE:BYTE`, behind a blank
abbrev pub byte_text : List ℕ → ℕ → List ℕ
byte_text file at = 32 ∷ (file ++ (58 ∷ decimal at))

-- where a declaration stands in files of these names
abbrev pub spot_text : List (List ℕ) → Option Spot → List ℕ
spot_text files None = []
spot_text files (Some spot) = byte_text (file_word files spot.file) spot.at

-- the line of an event: its name, its kind, its rate, and where it is declared
abbrev pub event_line : List (List ℕ) → EventModel → ℕ → List ℕ
event_line files model event =
    event_name model.flat.system event
    ++ (32 ∷ (kind_word (origin_at model.origins event).kind ++ (32 ∷ (rate_text (rate_of model.flat.rates event) ++ (spot_text files (origin_at model.origins event).spot ++ (10 ∷ []))))))

-- The text on the events of a model in files of these names: the line of each, in order, and the line `end`.
abbrev pub events_text : List (List ℕ) → EventModel → List ℕ
events_text files model = flat_map (event_line files model) (numbers_below (length model.flat.system.events)) ++ codes "end\n"
