-- What is known of the lines of a sheet before they are made, and what is left of its text.
use Rattle.std.specs.Prelude.{ℕ, ◌≡◌, ◌<◌, ◌==◌, ◌++◌, Bool, true, false, List, [], drop, filter, length, map, slice_index_or}
use Rattle.std.specs.List.{flat_map}
use Rattle.csv.specs.Writing as Csv
use Rattle.csv.specs.declared.writer.Writer.{Writer}
use Rattle.fault_system.specs.Truth.{member, set_of}
use Rattle.fmea_rows.specs.declared.row.Row.{Row}
use Rattle.model_phases.specs.declared.events.EventModel.{EventModel}
use Rattle.sheet_model.specs.declared.model.SheetModel.{SheetModel}
use Rattle.fmea_sheet.specs.declared.entries.Entry.{Entry}
use Rattle.fmea_sheet.specs.Cells.{reached_by}
use Rattle.fmea_sheet.specs.Text.{fields_with, header, line_text, place_of}

-- ---- rows by their events

-- the effects of the rows of an event
abbrev pub effects_in : List Row → ℕ → List ℕ
effects_in rows event = map (λ row. row.effect) (filter (λ row. row.event == event) rows)

-- the effects of rows were added to the list of the event of each, where there is one
pub record AddsEffects (rows : List Row) (old new : List (List ℕ)) : Type 0 where
  pub size : length new ≡ length old
  pub added : (k : ℕ) → k < length old → slice_index_or new k [] ≡ slice_index_or old k [] ++ effects_in rows k

-- ---- marks

-- below their size the marks are those of the set of these numbers
abbrev pub AreMarks : List ℕ → List Bool → Type 0
AreMarks numbers marks = (k : ℕ) → k < length marks → member marks k ≡ set_of numbers k

-- ---- lines

-- what is known of the line of an event, in files of these names and texts
abbrev pub entry_of : List (List ℕ) → List (List ℕ) → EventModel → ℕ → Entry
entry_of files texts model event = record { event = event; reached = reached_by model.flat event; place = place_of files texts model.origins event }

-- the line of which this is known
abbrev pub entry_text : SheetModel → Entry → List ℕ
entry_text model entry = line_text (fields_with model entry.event entry.reached entry.place)

-- the lines of which this is known, from a place on
abbrev pub entry_lines : SheetModel → List Entry → ℕ → List ℕ
entry_lines model entries at = flat_map (entry_text model) (drop at entries)

-- what is left of a sheet, where the line of the columns was made or not, and so many others
abbrev pub sheet_left : SheetModel → List Entry → Bool → ℕ → List ℕ
sheet_left model entries false at = line_text header ++ entry_lines model entries at
sheet_left model entries true at = entry_lines model entries at

-- A writer of records stands between two records, has the settings of RFC 4180, and holds nothing back.
pub record IsAtLine {W : Type 0} (writer : Writer W) : Type 0 where
  pub setup : Csv.writer_setup writer ≡ Csv.default_writer
  pub fields : Csv.fields_written writer ≡ 0
  pub shown : Csv.has_written writer ≡ false
  pub pending : Csv.writer_pending writer ≡ []
