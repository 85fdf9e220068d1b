-- The text on the refusals of a group.
use Rattle.std.specs.Prelude.{ℕ, Bool, ◌==◌, nat_lt, if◌then◌else◌, List, [], ◌∷◌, ◌++◌, codes, decimal, flat_map, fold, length, slice_get, take, unwrap_or}
use Rattle.std.specs.List.{list_any}
use Rattle.plain_values.specs.declared.refusal.Place.{Place}
use Rattle.plain_values.specs.declared.refusal.Place.TheVariants.{Words, Whole, At}
use Rattle.plain_values.specs.declared.refusal.Refusal.{Refusal}
use Rattle.plain_values.specs.Name.{is_same_text}
use Rattle.plain_values.specs.Refusal.{code_text}
use Rattle.text_places.specs.Places.{column, line_number}

-- ---- a line

-- the name of a file, or its text
abbrev pub text_at : List (List ℕ) → ℕ → List ℕ
text_at texts number = unwrap_or (slice_get texts number) []

-- the place of a byte in the text of a file: the name of the file, the line and the column
abbrev pub byte_text : List ℕ → List ℕ → ℕ → List ℕ
byte_text file text at = file ++ ((codes ":" ++ decimal (line_number text at)) ++ ((codes ":" ++ decimal (column text at)) ++ codes " "))

-- the place of a refusal: nothing for the words, a whole file by its name, and else the file, the line and the column
abbrev pub place_text : List (List ℕ) → List (List ℕ) → Place → List ℕ
place_text files texts Words = []
place_text files texts (Whole file) = text_at files file ++ codes " "
place_text files texts (At file at) = byte_text (text_at files file) (text_at texts file) at

-- the limit that was exceeded, where there is one
abbrev pub limit_text : ℕ → List ℕ
limit_text limit = if limit == 0 then [] else codes " over " ++ decimal limit

-- the line of a refusal: its place, its code and name, and its limit
abbrev pub refusal_line : List (List ℕ) → List (List ℕ) → Refusal → List ℕ
refusal_line files texts refusal = place_text files texts refusal.place ++ (code_text refusal.code ++ (limit_text refusal.limit ++ codes "\n"))

-- ---- the lines

-- whether a line is among these
abbrev pub has_line : List (List ℕ) → List ℕ → Bool
has_line lines line = list_any (λ other. is_same_text other line) lines

-- these lines, and one more unless it is among them
abbrev pub with_line : List (List ℕ) → List ℕ → List (List ℕ)
with_line lines line = if has_line lines line then lines else lines ++ line ∷ []

-- the lines of these refusals, each once, as they first come
abbrev pub lines_of : List (List ℕ) → List (List ℕ) → List Refusal → List (List ℕ)
lines_of files texts refusals = fold (λ lines refusal. with_line lines (refusal_line files texts refusal)) [] refusals

-- how many refusals of a group are listed
abbrev pub most_refusals : ℕ
most_refusals = 1024

-- the last line: `end` where the group has fewer refusals than that, which are all listed, and else `more`: also where it has exactly so many
abbrev pub end_line : List Refusal → List ℕ
end_line group = if nat_lt (length group) most_refusals then codes "end\n" else codes "more\n"

-- The text on a group of which this is the first refusal: its line, and those of the others, each once, as far as they are listed.
abbrev pub refusals_text : List (List ℕ) → List (List ℕ) → Refusal → List Refusal → List ℕ
refusals_text files texts first group = flat_map (λ line. line) (lines_of files texts (first ∷ take most_refusals group)) ++ end_line group
