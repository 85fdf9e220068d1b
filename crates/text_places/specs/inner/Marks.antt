-- How far a text is read at a byte, by which the lines and columns of many bytes are found.
use Rattle.std.specs.Prelude.{ℕ, ◌≡◌, ◌+◌, Bool, not, cond, List, fold, take, slice_get}
use Rattle.std.specs.Io.BufRead.{ends_with_byte}
use Rattle.std.specs.Option.{option_map_or}
use Rattle.text_places.specs.Places.{begins_character, is_feed}
use Rattle.text_places.specs.declared.mark.Mark.{Mark}

-- where each text begins
abbrev pub start : Mark
start = record { at = 0; feeds = 0; characters = 0 }

-- one for yes
abbrev pub counted : Bool → ℕ
counted is = cond is 1 0

-- the mark behind one more byte: a line feed ends a line
abbrev pub passed : Mark → ℕ → Mark
passed mark byte =
    record { at = mark.at + 1; feeds = mark.feeds + counted (is_feed byte); characters = cond (is_feed byte) 0 (mark.characters + counted (begins_character byte)) }

-- the mark of a byte of a text
abbrev pub mark_at : List ℕ → ℕ → Mark
mark_at text byte = fold passed start (take byte text)

-- A mark is that of its byte.
abbrev pub IsMark : List ℕ → Mark → Type 0
IsMark text mark = mark ≡ mark_at text mark.at

-- how many characters a byte adds to those before it in its line: a line feed stands where a carriage return right before it stands
abbrev pub further_of : ℕ → Bool → ℕ
further_of byte behind = cond (is_feed byte) (counted (not behind)) (counted (begins_character byte))

-- the same of a place in a text: its end stands behind the last line
abbrev pub further : List ℕ → ℕ → ℕ
further text byte = option_map_or (λ own. further_of own (ends_with_byte 13 (take byte text))) (slice_get text byte) 1
