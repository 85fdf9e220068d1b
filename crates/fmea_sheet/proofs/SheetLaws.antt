-- The text of a sheet: made of what is known of its lines, and read back.
use Rattle.std.proofs.Common.{ℕ, zero, suc, ◌+◌, ◌≡◌, false, List, [], ◌∷◌, ◌++◌, length, map, ap, ◌∙◌, sym, refl, arith, length-append}
use Rattle.std.specs.List.{flat_map}
use Rattle.std.proofs.lemmas.List.Folds.{flat_map-map}
use lib.ListN.{length-map}
use Rattle.csv.specs.Reading.{default_config, records_from}
use Rattle.csv.specs.Writing.{read_back}
use Rattle.csv.specs.declared.parser.State.TheVariants.{StartRecord}
use Rattle.csv.proofs.RoundTrip.{read-write-all, rows_text}
use Rattle.plain_values.specs.Numbered.{numbers_below}
use Rattle.sheet_model.specs.declared.model.SheetModel.{SheetModel}
use Rattle.fmea_sheet.specs.declared.entries.Entry.{Entry}
use Rattle.fmea_sheet.specs.Text.{header, line_fields, line_text, sheet_text}
use Rattle.fmea_sheet.specs.inner.Written.{entry_of, entry_text, sheet_left}

rows-text : (xs : List (List (List ℕ))) → rows_text xs ≡ flat_map line_text xs
unfolding rows_text
rows-text [] = refl
rows-text (x ∷ xs) = ap (λ rest. line_text x ++ rest) (rows-text xs)

count-below : (n : ℕ) → length (numbers_below n) ≡ n
count-below zero = refl
count-below (suc n) = omega (arith, length-append (numbers_below n) (n ∷ []), count-below n)

module _ (files texts : List (List ℕ)) (model : SheetModel) where
  abbrev count : ℕ
  count = length model.events.flat.system.events

  -- the text of a sheet is that of its records
  records-text : sheet_text files texts model ≡ rows_text (header ∷ map (line_fields files texts model) (numbers_below count))
  records-text = ap (λ rest. line_text header ++ rest) (sym (flat_map-map line_text (line_fields files texts model) (numbers_below count)))
      ∙ sym (rows-text (header ∷ map (line_fields files texts model) (numbers_below count)))

  read-fields : (events : List ℕ) → map read_back (map (line_fields files texts model) events) ≡ map (line_fields files texts model) events
  read-fields [] = refl
  read-fields (event ∷ events) = ap (λ rest. line_fields files texts model event ∷ rest) (read-fields events)

  -- what is read from a sheet
  pub sheet-read : records_from default_config (count + 1) StartRecord (sheet_text files texts model) ≡ header ∷ map (line_fields files texts model) (numbers_below count)
  sheet-read =
      let size : count + 1 ≡ length (header ∷ map (line_fields files texts model) (numbers_below count)) = omega (arith, length-map (numbers_below count) (line_fields files texts model), count-below count) in
      (λ i. records_from default_config (size i) StartRecord (records-text i))
      ∙ read-write-all (header ∷ map (line_fields files texts model) (numbers_below count)) ∙ ap (λ rest. header ∷ rest) (read-fields (numbers_below count))

  -- what is left of a sheet at first is all of it
  pub all-left : (entries : List Entry) → entries ≡ map (entry_of files texts model.events) (numbers_below count) → sheet_left model entries false 0 ≡ sheet_text files texts model
  all-left entries are =
      ap (λ rest. line_text header ++ rest) (ap (flat_map (entry_text model)) are ∙ flat_map-map (entry_text model) (entry_of files texts model.events) (numbers_below count))
