-- Small texts, worked: their lines end at line feeds, and columns are characters.
use Rattle.std.proofs.Common.{◌≡◌, ℕ, List, [], ◌∷◌, codes, refl}
use Rattle.std.specs.Fmt.{digits}
use Rattle.text_places.specs.Places.{caret_line, column, line_number, line_text, place_text}

-- two lines
whole : place_text (codes "m.aadl") (codes "abc\ndef\n") 5 ≡ codes "m.aadl:2:2\ndef\n ^\n"
unfolding digits
whole = refl

-- an empty text: its end is in its only line
empty : place_text (codes "m") [] 0 ≡ codes "m:1:1\n\n^\n"
unfolding digits
empty = refl

-- a line feed stands behind the last character of its line
at_feed : place_text (codes "m") (codes "abc\ndef") 3 ≡ codes "m:1:4\nabc\n   ^\n"
unfolding digits
at_feed = refl

-- the end of a text without a line feed at its end, and what is behind it
at_end : place_text (codes "m") (codes "abc") 3 ≡ codes "m:1:4\nabc\n   ^\n"
unfolding digits
at_end = refl

behind_end : place_text (codes "m") (codes "abc") 999 ≡ codes "m:1:4\nabc\n   ^\n"
unfolding digits
behind_end = refl

-- the end of a text with one: the line behind it
at_last_line : place_text (codes "m") (codes "abc\n") 4 ≡ codes "m:2:1\n\n^\n"
unfolding digits
at_last_line = refl

-- a carriage return before a line feed is not in the line, and both stand behind its last character
at_return : place_text (codes "m") (codes "abc\r\ndef") 3 ≡ codes "m:1:4\nabc\n   ^\n"
unfolding digits
at_return = refl

at_feed_behind : place_text (codes "m") (codes "abc\r\ndef") 4 ≡ codes "m:1:4\nabc\n   ^\n"
unfolding digits
at_feed_behind = refl

-- a carriage return elsewhere is a character
lone_return : column (codes "a\rb") 2 ≡ 3
lone_return = refl

-- two bytes of one character have one column, and the next character the next
two_bytes : List ℕ
two_bytes = 97 ∷ 195 ∷ 164 ∷ 98 ∷ []

first_byte : column two_bytes 1 ≡ 2
unfolding two_bytes
first_byte = refl

second_byte : column two_bytes 2 ≡ 2
unfolding two_bytes
second_byte = refl

next_character : column two_bytes 3 ≡ 3
unfolding two_bytes
next_character = refl

-- a tab is one character, and stands below itself
tabs : caret_line (codes "\ta\tb") 3 ≡ codes "\t \t^"
tabs = refl

-- bytes that go on with no character count as none
no_character : column (128 ∷ 129 ∷ 97 ∷ []) 1 ≡ 1
no_character = refl

behind_none : column (128 ∷ 129 ∷ 97 ∷ []) 2 ≡ 1
behind_none = refl

-- an empty line between others
between : place_text (codes "m") (codes "a\n\nb") 2 ≡ codes "m:2:1\n\n^\n"
unfolding digits
between = refl

number : line_number (codes "a\nb\nc") 4 ≡ 3
number = refl

line : line_text (codes "a\r\nb\r\r\nc") 3 ≡ codes "b\r"
line = refl
