-- The words of a text of requirements, line by line.
use Rattle.std.specs.Prelude.{ℕ, ◌+◌, ◌==◌, Bool, true, false, ◌&&◌, ◌||◌, cond, List, [], ◌∷◌, ◌++◌, length}
use Rattle.requirements.specs.declared.words.PlacedWord.{PlacedWord}
use Rattle.requirements.specs.declared.words.Scan.{Scan}

-- a blank between words: a space, a tabulator, or a carriage return, which stands at the end of a line where lines end with both
abbrev pub is_blank : ℕ → Bool
is_blank byte = byte == 32 || (byte == 9 || byte == 13)

-- nothing was read yet
abbrev pub nothing_read : Scan
nothing_read = record { lines = []; words = []; current = []; from = 0; comment = false }

-- no word is being read
abbrev pub is_between : Scan → Bool
is_between scan = length scan.current == 0

-- a word ends, if one was being read
abbrev pub end_word : Scan → Scan
end_word scan =
    let word : PlacedWord = record { text = scan.current; at = scan.from } in
    cond (is_between scan) scan (record scan { words = scan.words ++ word ∷ []; current = [] })

-- a line ends, and with it its comment
abbrev pub end_line : Scan → Scan
end_line scan = let last = end_word scan in record last { lines = last.lines ++ last.words ∷ []; words = []; comment = false }

-- a byte at this place is one of a word
abbrev pub add_byte : Scan → ℕ → ℕ → Scan
add_byte scan at byte = record scan { current = scan.current ++ byte ∷ []; from = cond (is_between scan) at scan.from }

-- One byte more, at this place: a line feed ends a line; of a comment nothing counts; a blank ends a word; `#` where a word might begin
-- begins a comment; and each other byte is one of a word.
abbrev pub with_byte : Scan → ℕ → ℕ → Scan
with_byte scan at byte =
    cond (byte == 10) (end_line scan)
    (cond scan.comment scan
    (cond (is_blank byte) (end_word scan)
    (cond (byte == 35 && is_between scan) (record scan { comment = true }) (add_byte scan at byte))))

-- these bytes more, of which the first has this place
abbrev pub with_bytes : Scan → ℕ → List ℕ → Scan
with_bytes scan at [] = scan
with_bytes scan at (byte ∷ bytes) = with_bytes (with_byte scan at byte) (at + 1) bytes

-- The words of each line of a text, in order; the last line may lack its end.
abbrev pub lines_of : List ℕ → List (List PlacedWord)
lines_of text = (end_line (with_bytes nothing_read 0 text)).lines
