-- Bytes as a DOT text shows them, between quotes and in labels.
use Rattle.std.specs.Prelude.{ℕ, Bool, false, ◌&&◌, ◌||◌, ◌==◌, ◌/◌, ◌%◌, not, nat_le, if◌then◌else◌, List, [], ◌∷◌, flat_map}
use Rattle.std.specs.Fmt.{digit_glyph}

-- a byte that means something in a DOT text, or begins a byte that is shown by its digits: one of `"`, `%`, `&`, `<`, `>` and `\`
abbrev pub is_sign : ℕ → Bool
is_sign byte = ((((byte == 34 || byte == 37) || byte == 38) || byte == 60) || byte == 62) || byte == 92

-- a byte that stands for itself: a printable ASCII character that is none of these
abbrev pub is_plain : ℕ → Bool
is_plain byte = (nat_le 32 byte && nat_le byte 126) && not (is_sign byte)

-- a byte as it is shown: itself, or `%` and its two hexadecimal digits
abbrev pub shown_byte : ℕ → List ℕ
shown_byte byte = if is_plain byte then byte ∷ [] else 37 ∷ digit_glyph false (byte / 16) ∷ digit_glyph false (byte % 16) ∷ []

-- a text as it is shown
abbrev pub shown : List ℕ → List ℕ
shown text = flat_map shown_byte text
