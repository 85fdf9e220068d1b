-- Beside specs/Rows.antt: what no clause of `run` reaches.
use Rattle.std.specs.Prelude.{◌≡◌, ℕ, Bool, ◌&&◌, List, Option}
use Rattle.std.specs.Bool.{beq}
use Rattle.package_index.specs.Names.{is_same_name}
use Rattle.package_index.specs.inner.Names.{names_of}
use Rattle.package_index.specs.declared.words.Words.{Words}
use Rattle.component_extension.specs.Rows.{Key, place_by}

-- ---- the table of rows

-- the key as the code holds it
abbrev pub KeyWords : Type 0
KeyWords = Words × Bool × Bool

-- what the code's key stands for
abbrev pub key_of_words : KeyWords → Key
key_of_words key = record { names = names_of key.0; outward = key.1; negative = key.2 }

-- whether two of the code's keys are the same
abbrev pub same_words : KeyWords → KeyWords → Bool
same_words a b = (is_same_name (names_of a.0) (names_of b.0) && beq a.1 b.1) && beq a.2 b.2

-- The table gives each key the place of the first row that goes by it.
abbrev pub KnowsRows : {Row : Type 0} → (Row → Option Key) → List Row → (KeyWords → Option ℕ) → Type 0
KnowsRows key_of rows table = (key : KeyWords) → table key ≡ place_by key_of rows (key_of_words key)
