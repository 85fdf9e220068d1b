-- The token that begins a static fault tree in Galileo text, as this tool writes it.
use Rattle.std.specs.Prelude.{ℕ, ◌+◌, Bool, true, false, not, ◌==◌, ◌&&◌, ◌||◌, nat_le, if◌then◌else◌, List, [], ◌∷◌, drop, Option, Some, None, codes}
use Rattle.std.specs.List.{prefix_len, starts_with}
use Rattle.aadl_syntax.specs.Form.{is_blank, is_digit}
use Rattle.aadl_lexer.specs.Scan.{begins, digits_len, number_len}
use Rattle.property_reader.specs.declared.rate.RateKind.TheVariants.{Lambda, Prob}
use Rattle.galileo_reader.specs.declared.token.Front.{Front}
use Rattle.galileo_reader.specs.declared.token.Token.{Token}
use Rattle.galileo_reader.specs.declared.token.Token.TheVariants.{Name, Toplevel, And, Or, Counts, Rate, Dorm, End}

-- whether a text begins with these bytes
abbrev pub starts : List ℕ → List ℕ → Bool
starts text word = starts_with (λ a b. a == b) text word

-- how many blanks begin a text: tabs, line feeds, carriage returns and spaces
abbrev pub blanks_len : List ℕ → ℕ
blanks_len text = prefix_len is_blank text

-- a byte that may stand in a name: neither a quote nor a line feed
abbrev pub is_plain : ℕ → Bool
is_plain b = not (b == 34 || b == 10)

-- how many such bytes begin a text
abbrev pub plain_len : List ℕ → ℕ
plain_len text = prefix_len is_plain text

-- a name of so many bytes with its quotes, where it has a byte and a quote follows; else 0
abbrev pub closed_len : ℕ → List ℕ → ℕ
closed_len len after = if not (len == 0) && begins 34 after then len + 2 else 0

-- how long the name in quotes is that begins a text, or 0
unfoldable pub name_len : List ℕ → ℕ
name_len [] = 0
name_len (b ∷ text) = if b == 34 then closed_len (plain_len text) (drop (plain_len text) text) else 0

-- how many decimal digits begin a text
abbrev pub figures_len : List ℕ → ℕ
figures_len text = prefix_len is_digit text

-- one to nine
abbrev pub is_few : ℕ → Bool
is_few len = nat_le 1 len && nat_le len 9

-- how long the digits, `of` and the digits are that begin a text, or 0; a number has one to nine digits
unfoldable pub counts_len : List ℕ → ℕ
counts_len text =
    if is_few (figures_len text) && (starts (drop (figures_len text) text) (codes "of") && is_few (figures_len (drop (figures_len text + 2) text)))
    then figures_len text + 2 + figures_len (drop (figures_len text + 2) text) else 0

-- how long the word and the number after it are, where the text begins with the word, of so many bytes; 0 where no number follows
unfoldable pub rate_len : List ℕ → List ℕ → ℕ → ℕ
rate_len text word len = if starts text word && not (digits_len is_digit (drop len text) == 0) then len + number_len (drop len text) else 0

-- a token of a length, where that is not 0, and what stands there otherwise
abbrev pub front_or : Token → ℕ → Option Front → Option Front
front_or token len other = if len == 0 then other else Some (record { token = token; len = len })

-- a word, where the text begins with it, and what stands there otherwise
abbrev pub word_or : List ℕ → Token → ℕ → List ℕ → Option Front → Option Front
word_or word token len text other = if starts text word then Some (record { token = token; len = len }) else other

-- the attribute that begins a text
unfoldable pub rate_at : List ℕ → Option Front
rate_at text =
    front_or (Rate Lambda) (rate_len text (codes "lambda=") 7)
    (front_or (Rate Prob) (rate_len text (codes "prob=") 5)
    (front_or Dorm (rate_len text (codes "dorm=") 5) None))

-- the word or the attribute that begins a text
unfoldable pub word_at : List ℕ → Option Front
word_at text = word_or (codes "toplevel") Toplevel 8 text (word_or (codes "and") And 3 text (word_or (codes "or") Or 2 text (rate_at text)))

-- the token that begins a text: the longest of its kind
unfoldable pub token_at : List ℕ → Option Front
token_at text =
    if begins 59 text then Some (record { token = End; len = 1 })
    else front_or Name (name_len text) (front_or (Counts (figures_len text)) (counts_len text) (word_at text))
