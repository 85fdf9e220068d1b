-- Rows that go by a key: a later row takes the place of an earlier one of its key (AS5506: refinement).
use Rattle.std.specs.Prelude.{ℕ, Bool, false, ◌&&◌, List, ◌∷◌, [], ◌++◌, Option, Some, None, option_and_then, position, slice_get, slice_set}
use Rattle.std.specs.Bool.{beq}
use Rattle.package_index.specs.Names.{is_same_name}

-- By what a row goes: its name, or of a propagation the names of its point, its direction and whether it is a `not`.
pub record Key : Type 0 where
  pub names : List (List ℕ)
  pub outward : Bool
  pub negative : Bool

-- the key of a name
abbrev pub named : List ℕ → Key
named name = record { names = name ∷ []; outward = false; negative = false }

-- whether two keys are the same
abbrev pub is_same_key : Key → Key → Bool
is_same_key a b = (is_same_name a.names b.names && beq a.outward b.outward) && beq a.negative b.negative

-- whether a row goes by the key; a row may go by none
abbrev pub goes_by : Key → Option Key → Bool
goes_by key None = false
goes_by key (Some other) = is_same_key other key

-- the place of the first row that goes by the key
abbrev pub place_by : {Row : Type 0} → (Row → Option Key) → List Row → Key → Option ℕ
place_by key_of rows key = position (λ row. goes_by key (key_of row)) rows

-- the first row that goes by the key
abbrev pub row_by : {Row : Type 0} → (Row → Option Key) → List Row → Key → Option Row
row_by key_of rows key = option_and_then (slice_get rows) (place_by key_of rows key)

-- the rows with one more: at this place, or else last
abbrev pub put_at : {Row : Type 0} → Option ℕ → List Row → Row → List Row
put_at None rows row = rows ++ row ∷ []
put_at (Some place) rows row = slice_set rows place row

-- A row takes the place of the row of its key, or else goes last.
abbrev pub put : {Row : Type 0} → (Row → Option Key) → List Row → Row → List Row
put key_of rows row = put_at (option_and_then (place_by key_of rows) (key_of row)) rows row
