-- The place of a byte in a text: the number of its line, the column of its character, and the line itself.
use Rattle.std.specs.Prelude.{ℕ, ◌+◌, ◌-◌, Bool, ◌==◌, ◌||◌, nat_lt, nat_le, if◌then◌else◌, List, [], ◌∷◌, ◌++◌, take, drop, length, map, codes, decimal, max}
use Rattle.std.specs.List.{after_last, before_first, count_by, filter, list_any}
use Rattle.std.specs.Io.BufRead.{strip_last}

-- ---- lines

-- whether a byte is a line feed
abbrev pub is_feed : ℕ → Bool
is_feed byte = byte == 10

-- the number of the line of a byte, from 1: each line feed before the byte ends a line
abbrev pub line_number : List ℕ → ℕ → ℕ
line_number text byte = count_by is_feed (take byte text) + 1

-- the front of a byte's line: what stands between the last line feed before the byte and the byte
abbrev pub line_front : List ℕ → ℕ → List ℕ
line_front text byte = after_last is_feed (take byte text)

-- the line with which a text begins: what stands before its first line feed, but for a carriage return right before that
abbrev pub first_line : List ℕ → List ℕ
first_line text = if list_any is_feed text then strip_last 13 (before_first is_feed text) else text

-- the line of a byte
abbrev pub line_text : List ℕ → ℕ → List ℕ
line_text text byte = first_line (line_front text byte ++ drop byte text)

-- ---- columns

-- whether a byte begins a character of UTF-8: it is none from 128 to 191, which go on with one
abbrev pub begins_character : ℕ → Bool
begins_character byte = nat_lt byte 128 || nat_le 192 byte

-- the characters of a byte's line up to its own, each as the byte with which it begins. One line feed stands behind the line, and
-- what is not in the line stands there: the line feed, a carriage return before it, and the end of the text.
abbrev pub reached : List ℕ → ℕ → List ℕ
reached text byte = filter begins_character (take (length (line_front text byte) + 1) (line_text text byte ++ 10 ∷ []))

-- the column of a byte, from 1: how many characters are reached
abbrev pub column : List ℕ → ℕ → ℕ
column text byte = max 1 (length (reached text byte))

-- what stands below a character: a tab below a tab, and a blank below any other
abbrev pub below : ℕ → ℕ
below character = if character == 9 then 9 else 32

-- a caret below the last of the characters that are reached
abbrev pub caret_line : List ℕ → ℕ → List ℕ
caret_line text byte = map below (take (column text byte - 1) (reached text byte)) ++ codes "^"

-- ---- the text

-- the place of a byte in the text of a file: the file's name, the line and the column; the line itself; and the caret below it
abbrev pub place_text : List ℕ → List ℕ → ℕ → List ℕ
place_text file text byte =
    file ++ codes ":" ++ decimal (line_number text byte) ++ codes ":" ++ decimal (column text byte) ++ codes "\n" ++ line_text text byte ++ codes "\n"
    ++ caret_line text byte ++ codes "\n"
