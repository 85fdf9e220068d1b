-- The lines of a table as records, and the writer of records that makes them.
use Rattle.std.specs.Prelude.{◌≡◌, ℕ, Bool, true, false, List, [], ◌++◌, drop}
use Rattle.std.specs.List.{flat_map}
use Rattle.csv.specs.Writing as Csv
use Rattle.csv.specs.declared.writer.Writer.{Writer}
use Rattle.fault_system.specs.Systems.{System}
use Rattle.property_reader.specs.declared.rate.Rate.{Rate}
use Rattle.fmea_rows.specs.Text.{header, row_fields}
use Rattle.fmea_rows.specs.declared.row.Row.{Row}

-- A writer of records stands between two records, has the settings of RFC 4180, and holds nothing back.
pub record IsAtLine {W : Type 0} (writer : Writer W) : Type 0 where
  pub setup : Csv.writer_setup writer ≡ Csv.default_writer
  pub fields : Csv.fields_written writer ≡ 0
  pub shown : Csv.has_written writer ≡ false
  pub pending : Csv.writer_pending writer ≡ []

-- the text of a record, with quotes where RFC 4180 asks for them
abbrev pub record_text : List (List ℕ) → List ℕ
record_text fields = Csv.row_text Csv.default_writer fields

-- the text of the record of a row
abbrev pub row_record : System → List Rate → Row → List ℕ
row_record system rates row = record_text (row_fields system rates row)

-- the lines of the rows from a place on
abbrev pub row_lines : System → List Rate → List Row → ℕ → List ℕ
row_lines system rates rows at = flat_map (row_record system rates) (drop at rows)

-- what is left of a table, where the line of the columns was made or not, and the lines of so many rows
abbrev pub table_left : System → List Rate → List Row → Bool → ℕ → List ℕ
table_left system rates rows false at = record_text header ++ row_lines system rates rows at
table_left system rates rows true at = row_lines system rates rows at
