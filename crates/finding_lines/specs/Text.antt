-- The text of a review.
use Rattle.std.specs.Prelude.{ℕ, List, [], ◌∷◌, ◌++◌, codes, decimal, slice_get, slice_index_or, Option, None, Some}
use Rattle.std.specs.List.{flat_map}
use Rattle.plain_values.specs.declared.spot.Spot.{Spot}
use Rattle.text_places.specs.Places.{column, line_number}
use Rattle.finding_places.specs.declared.line.ReviewLine.{ReviewLine}

-- the place of a byte in a file with this text: `FILE:LINE:COLUMN`, behind a blank
abbrev pub place_text : List ℕ → List ℕ → ℕ → List ℕ
place_text file text at = 32 ∷ (file ++ ((58 ∷ decimal (line_number text at)) ++ (58 ∷ decimal (column text at))))

-- the same, where there is such a text
abbrev pub place_in : List ℕ → Option (List ℕ) → ℕ → List ℕ
place_in file None at = []
place_in file (Some text) at = place_text file text at

-- where that stands which a line names, in files of these names and texts; nothing where that is not known
abbrev pub spot_text : List (List ℕ) → List (List ℕ) → Option Spot → List ℕ
spot_text files texts None = []
spot_text files texts (Some spot) = place_in (slice_index_or files spot.file []) (slice_get texts spot.file) spot.at

-- a line: what it says, and the place of what it names
abbrev pub line_text : List (List ℕ) → List (List ℕ) → ReviewLine → List ℕ
line_text files texts line = line.text ++ (spot_text files texts line.spot ++ (10 ∷ []))

-- The text of a review with these lines, of a model in files of these names and texts.
abbrev pub review_text : List (List ℕ) → List (List ℕ) → List ReviewLine → List ℕ
review_text files texts lines = flat_map (line_text files texts) lines ++ codes "end\n"
