-- Beside specs/Members.antt: what no clause of `run` reaches.
use Rattle.std.specs.Prelude.{◌≡◌, ℕ, Bool, false, List, Option, Some, None}
use Rattle.std.specs.List.{list_any}
use denote.Ref.{Bor}
use Rattle.component_extension.specs.Members.{Mark, is_before, is_earlier}

-- ---- names

-- the same of a table's answer, which is the first level and byte of a name
abbrev pub comes_before : Option (ℕ × ℕ) → ℕ → ℕ → Bool
comes_before None level at = false
comes_before (Some time) level at = is_before time level at

-- The table tells of each name whether one of the marks comes before a byte of a level.
abbrev pub KnowsMarks : List Mark → (Bor (List ℕ) → Option (ℕ × ℕ)) → Type 0
KnowsMarks marks table = (name : Bor (List ℕ)) (level at : ℕ) → comes_before (table name) level at ≡ list_any (is_earlier name.now level at) marks
