-- What the tables of names know.
use Rattle.std.specs.Prelude.{◌≡◌, ℕ, List, [], Option, unwrap_or}
use Rattle.package_index.specs.declared.words.Words.{Words}
use Rattle.package_index.specs.inner.Names.{names_of}
use Rattle.hazard_records.specs.Meaning.{numbers_named}

-- the row of a key, and none where there is no row
abbrev pub row_at : {Row : Type 0} → Option (List Row) → List Row
row_at row = unwrap_or row []

-- The table gives each name the numbers of the keys that are that name.
abbrev pub KnowsNumbers : List (List (List ℕ)) → (Words → Option (List ℕ)) → Type 0
KnowsNumbers keys rows = (words : Words) → row_at (rows words) ≡ numbers_named keys (names_of words)
