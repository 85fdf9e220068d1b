-- The tokens of one line of a Galileo text, each with the place where it stands.
use Rattle.std.specs.Prelude.{ℕ, ◌+◌, ◌≡◌, Bool, true, false, List, [], ◌∷◌, drop, Option, Some}
use Rattle.std.specs.Option.{option_map}
use Rattle.galileo_reader.specs.declared.token.Front.{Front}
use Rattle.galileo_reader.specs.declared.token.Mark.{Mark}
use Rattle.galileo_reader.specs.declared.token.Token.{Token}
use Rattle.galileo_reader.specs.declared.token.Token.TheVariants.{End}
use Rattle.galileo_reader.specs.Tokens.{blanks_len, token_at}
use Rattle.galileo_reader.specs.WideTokens.{wide_gap_len, wide_token_at}

-- how many bytes stand before the first token of a text: blanks, and in the wide reading comments and parameters too
abbrev pub gap_len : Bool → List ℕ → ℕ
gap_len false text = blanks_len text
gap_len true text = wide_gap_len text

-- the token that begins a text, in the first reading or in the wide one
abbrev pub front_of : Bool → List ℕ → Option Front
front_of false text = token_at text
front_of true text = wide_token_at text

-- the next token from a place on
unfoldable pub mark_from : Bool → List ℕ → ℕ → Option Mark
mark_from wide text at =
    option_map (λ front. record { token = front.token; at = at + gap_len wide (drop at text); len = front.len }) (front_of wide (drop (at + gap_len wide (drop at text)) text))

-- whether a token is the `;` that ends a line
abbrev pub is_end : Token → Bool
is_end End = true
is_end _ = false

-- From a place on stand these tokens, none of them a `;`, and then a `;`, behind which is the place `next`.
abbrev pub LineMarks : Bool → List ℕ → ℕ → List Mark → ℕ → Type 0
LineMarks wide text at [] next = (end : Mark) × (mark_from wide text at ≡ Some end) × (is_end end.token ≡ true) × (next ≡ end.at + end.len)
LineMarks wide text at (mark ∷ marks) next = (mark_from wide text at ≡ Some mark) × (is_end mark.token ≡ false) × LineMarks wide text (mark.at + mark.len) marks next
