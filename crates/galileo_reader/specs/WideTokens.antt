-- The token that begins a static fault tree in Galileo text, as other tools write it: comments, names without quotes, keywords in
-- any case, and attributes that do not change which sets are cut sets.
use Rattle.std.specs.Prelude.{ℕ, zero, suc, ◌+◌, Bool, true, false, not, ◌==◌, ◌&&◌, ◌||◌, if◌then◌else◌, List, [], ◌∷◌, length, take, drop, Option, Some, None, codes}
use Rattle.std.specs.List.{list_any, prefix_len}
use Rattle.std.specs.Str.{str_eq_ignore_ascii_case}
use Rattle.aadl_syntax.specs.Form.{is_blank, is_digit, is_letter, is_letter_or_digit}
use Rattle.aadl_lexer.specs.Scan.{after_one, begins, digits_len, number_len}
use Rattle.property_reader.specs.declared.rate.RateKind.{RateKind}
use Rattle.property_reader.specs.declared.rate.RateKind.TheVariants.{Lambda, Prob}
use Rattle.galileo_reader.specs.declared.token.Front.{Front}
use Rattle.galileo_reader.specs.declared.token.Token.{Token}
use Rattle.galileo_reader.specs.declared.token.Token.TheVariants.{Name, Bare, Toplevel, And, Or, Counts, Votes, Value, Other, Dorm, Dynamic, End}
use Rattle.galileo_reader.specs.Tokens.{blanks_len, figures_len, front_or, is_few, name_len, starts}

-- ---- lengths

-- a length, and another where it is 0
abbrev pub len_or : ℕ → ℕ → ℕ
len_or len other = if len == 0 then other else len

-- a part behind so many bytes; 0 where it has none
abbrev pub after : ℕ → ℕ → ℕ
after front len = if len == 0 then 0 else front + len

-- whether a text begins with a byte of a class
abbrev pub begins_in : (ℕ → Bool) → List ℕ → Bool
begins_in class [] = false
begins_in class (b ∷ text) = class b

-- whether a word is this one, which is written in lower case, in any letter case
abbrev pub spells : List ℕ → List ℕ → Bool
spells word key = str_eq_ignore_ascii_case word key

-- ---- what may stand between tokens

-- how long the comment is that begins with `//`: to the end of its line
abbrev pub line_comment_len : List ℕ → ℕ
line_comment_len text = if starts text (codes "//") then prefix_len (λ b. not (b == 10)) text else 0

-- whether `*/` begins a text
abbrev pub closes : List ℕ → Bool
closes text = starts text (codes "*/")

-- how many bytes of a text end with its first `*/`; 0 where it has none
unfoldable pub closing_len : List ℕ → ℕ
closing_len [] = 0
closing_len (b ∷ text) = if closes (b ∷ text) then 2 else after_one (closing_len text)

-- how long the comment is that begins with `/*`: to the first `*/` behind it; 0 where none follows
unfoldable pub block_comment_len : List ℕ → ℕ
block_comment_len text = if starts text (codes "/*") then after 2 (closing_len (drop 2 text)) else 0

-- how many bytes stand before a `;` or the end of the line
abbrev pub clause_len : List ℕ → ℕ
clause_len text = prefix_len (λ b. not (b == 59 || b == 10)) text

-- how long the statement is that begins with `param` and a blank: to the `;` of its line; 0 where the line has none
unfoldable pub parameter_len : List ℕ → ℕ
parameter_len text =
    if spells (take 5 text) (codes "param") && (begins_in is_blank (drop 5 text) && begins 59 (drop (clause_len text) text)) then clause_len text + 1 else 0

-- how long the blanks, the comment or the statement of a parameter are that begin a text; 0 where none does
unfoldable pub piece_len : List ℕ → ℕ
piece_len text = len_or (blanks_len text) (len_or (line_comment_len text) (len_or (block_comment_len text) (parameter_len text)))

-- how long so many of these are at most, one behind the other
unfoldable pub pieces_len : ℕ → List ℕ → ℕ
pieces_len zero text = 0
pieces_len (suc most) text = if piece_len text == 0 then 0 else piece_len text + pieces_len most (drop (piece_len text) text)

-- how long all of these are that begin a text
unfoldable pub wide_gap_len : List ℕ → ℕ
wide_gap_len text = pieces_len (length text) text

-- ---- words

-- a byte other than a letter and a digit that may stand in a name without quotes
abbrev pub is_bare_sign : ℕ → Bool
is_bare_sign b = list_any (λ sign. b == sign) (codes "_-.:@#$+[]")

-- a byte that may stand in a name without quotes
abbrev pub is_bare : ℕ → Bool
is_bare b = is_letter_or_digit b || is_bare_sign b

-- how long the word is that begins a text, or 0
abbrev pub bare_len : List ℕ → ℕ
bare_len text = prefix_len is_bare text

-- one to nine digits, and no more
abbrev pub are_figures : List ℕ → Bool
are_figures word = is_few (length word) && figures_len word == length word

-- `vot` and how many inputs are to be true
abbrev pub are_votes : List ℕ → Bool
are_votes word = spells (take 3 word) (codes "vot") && are_figures (drop 3 word)

-- how many inputs are to be true, `of`, and how many there are
abbrev pub are_counts : List ℕ → Bool
are_counts word = is_few (figures_len word) && (spells (take 2 (drop (figures_len word) word)) (codes "of") && are_figures (drop (figures_len word + 2) word))

-- a gate that is true where its inputs become true in an order
abbrev pub is_ordered : List ℕ → Bool
is_ordered word =
    spells word (codes "pand") || (spells word (codes "pand-inc") || (spells word (codes "pand-ex") || (spells word (codes "por") || (spells word (codes "por-inc") || spells word (codes "por-ex")))))

-- what keeps events in an order, or apart
abbrev pub is_sequence : List ℕ → Bool
is_sequence word = spells word (codes "seq") || (spells word (codes "sand") || spells word (codes "mutex"))

-- a gate with spares
abbrev pub is_spare : List ℕ → Bool
is_spare word = spells word (codes "spare") || (spells word (codes "wsp") || (spells word (codes "csp") || spells word (codes "hsp")))

-- an event that brings others about
abbrev pub is_dependency : List ℕ → Bool
is_dependency word = spells word (codes "fdep") || spells word (codes "pdep")

-- the word of a dynamic gate
abbrev pub is_dynamic_word : List ℕ → Bool
is_dynamic_word word = is_ordered word || (is_sequence word || (is_spare word || is_dependency word))

-- what a word is that is of no dynamic gate, and no attribute
abbrev pub counts_token : List ℕ → Token
counts_token word = if are_votes word then Votes else (if are_counts word then Counts (figures_len word) else Bare)

abbrev pub word_token : List ℕ → Token
word_token word =
    if spells word (codes "toplevel") then Toplevel else (if spells word (codes "and") then And else (if spells word (codes "or") then Or else counts_token word))

-- ---- numbers

-- how long the sign is that begins a text, or 0
abbrev pub sign_len : List ℕ → ℕ
sign_len text = if begins 43 text || begins 45 text then 1 else 0

-- how long the digits are with a sign before them or none, or 0
unfoldable pub power_len : List ℕ → ℕ
power_len text = after (sign_len text) (figures_len (drop (sign_len text) text))

-- how long the `e` with its sign and its digits is, or 0
unfoldable pub exponent_len : List ℕ → ℕ
exponent_len [] = 0
exponent_len (b ∷ text) = if b == 101 || b == 69 then after 1 (power_len text) else 0

-- digits, and an exponent or none
abbrev pub decimals_len : List ℕ → ℕ
decimals_len text = if figures_len text == 0 then 0 else figures_len text + exponent_len (drop (figures_len text) text)

-- `.`, digits, and an exponent or none, or 0
unfoldable pub point_len : List ℕ → ℕ
point_len [] = 0
point_len (b ∷ text) = if b == 46 then after 1 (decimals_len text) else 0

-- a `.` without digits behind it, and an exponent or none, or 0
unfoldable pub open_len : List ℕ → ℕ
open_len [] = 0
open_len (b ∷ text) = if b == 46 then 1 + exponent_len text else 0

-- what may stand behind a number as AADL writes it, where that is digits alone
abbrev pub number_more : List ℕ → ℕ → ℕ
number_more text len = if len == digits_len is_digit text then len + open_len (drop len text) else len

-- how long the number is that begins a text, or 0: as AADL writes it, or without digits before or behind its point
unfoldable pub real_len : List ℕ → ℕ
real_len text = if digits_len is_digit text == 0 then point_len text else number_more text (number_len text)

-- how long the number or the name of a parameter is that begins a text, or 0
unfoldable pub setting_len : List ℕ → ℕ
setting_len text = len_or (real_len text) (if begins_in is_letter text then bare_len text else 0)

-- ---- attributes

-- where the value of an attribute begins, of which so many bytes come before what may be its `=`
abbrev pub value_behind : ℕ → List ℕ → Option ℕ
value_behind at [] = None
value_behind at (b ∷ text) = if b == 61 then Some (at + 1 + wide_gap_len text) else None

-- where the value begins of the attribute that begins a text: behind a word and `=`, and what may stand between tokens
unfoldable pub value_at : List ℕ → Option ℕ
value_at text = value_behind (bare_len text + wide_gap_len (drop (bare_len text) text)) (drop (bare_len text + wide_gap_len (drop (bare_len text) text)) text)

-- a rate, of which so many bytes stand before its value; with a parameter for its value it is one without a number
abbrev pub rate_front : RateKind → ℕ → List ℕ → Option Front
rate_front kind at value = front_or (Value kind at) (after at (real_len value)) (front_or Other (after at (setting_len value)) None)

-- an attribute of a failure that has another distribution than those of `lambda` and `prob`
abbrev pub is_distribution : List ℕ → Bool
is_distribution word = spells word (codes "rate") || (spells word (codes "shape") || (spells word (codes "mean") || spells word (codes "stddev")))

-- an attribute that is read past
abbrev pub is_past : List ℕ → Bool
is_past word =
    spells word (codes "dorm") || (spells word (codes "repair") || (spells word (codes "cov") || (spells word (codes "res") || (spells word (codes "phases") || spells word (codes "interval")))))

-- an event that stands for so many: for one alone
abbrev pub is_single : List ℕ → List ℕ → Bool
is_single word value = spells word (codes "repl") && (begins 49 value && real_len value == 1)

-- an attribute that is no rate
abbrev pub past_front : List ℕ → ℕ → List ℕ → Option Front
past_front word at value =
    if is_distribution word then front_or Other (after at (setting_len value)) None
    else (if is_past word then front_or Dorm (after at (setting_len value)) None
    else (if is_single word value then front_or Dorm (after at (real_len value)) None else None))

-- the attribute of a word, of which so many bytes stand before its value
unfoldable pub attribute_front : List ℕ → ℕ → List ℕ → Option Front
attribute_front word at value =
    if spells word (codes "lambda") then rate_front Lambda at value else (if spells word (codes "prob") then rate_front Prob at value else past_front word at value)

-- ---- tokens

-- a word that is of no dynamic gate: an attribute where a value follows
abbrev pub plain_front : ℕ → List ℕ → Option ℕ → Option Front
plain_front len text None = Some (record { token = word_token (take len text); len = len })
plain_front len text (Some at) = attribute_front (take len text) at (drop at text)

-- the word, of so many bytes, that begins a text
unfoldable pub word_front : ℕ → List ℕ → Option Front
word_front len text =
    if len == 0 then None else (if is_dynamic_word (take len text) then Some (record { token = Dynamic; len = len }) else plain_front len text (value_at text))

-- the token that begins a text
unfoldable pub wide_token_at : List ℕ → Option Front
wide_token_at text = if begins 59 text then Some (record { token = End; len = 1 }) else front_or Name (name_len text) (word_front (bare_len text) text)
