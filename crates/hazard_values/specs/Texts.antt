-- What a value of a property says, as text.
use Rattle.std.specs.Prelude.{ℕ, suc, Bool, true, false, cond, ◌-◌, ◌==◌, ◌&&◌, ◌||◌, List, [], ◌∷◌, ◌++◌, codes, flat_map, length, map, Option, None, Some}
use Rattle.std.specs.List.{between}
use Rattle.aadl_syntax.specs.declared.token.Token.{Token}
use Rattle.aadl_syntax.specs.declared.token.TokenKind.TheVariants.{Text}
use Rattle.grammar_rules.specs.Parts.{parts_after}
use Rattle.grammar_rules.specs.Rules.{Rule, gives, ends, ◌>>=◌}
use Rattle.grammar_rules.specs.Running.{Outcome, read, dead, run}
use Rattle.grammar_rules.specs.Spans.{closes, until}
use Rattle.grammar_rules.specs.Tokens.{is_sign, same_kind, sign}

-- ---- strings

-- what stands between the quotes of a text in quotes
abbrev pub inside : List ℕ → List ℕ
inside text = between 1 (length text - 1) text

-- what a byte stands for, where a `\` may stand before it: a quote and a `\` lose that `\`, and it stays before any other byte
abbrev pub one_plain : Bool → ℕ → List ℕ
one_plain false byte = cond (byte == 92) [] (byte ∷ [])
one_plain true byte = cond (byte == 34 || byte == 92) (byte ∷ []) (92 ∷ byte ∷ [])

-- whether a `\` stands before the byte behind this one that is not itself behind a `\`
abbrev pub is_raised : Bool → ℕ → Bool
is_raised false byte = byte == 92
is_raised true byte = false

-- bytes without the `\` before a quote and before a `\`; a `\` may stand before them
abbrev pub plain_after : Bool → List ℕ → List ℕ
plain_after before [] = cond before (92 ∷ []) []
plain_after before (byte ∷ bytes) = one_plain before byte ++ plain_after (is_raised before byte) bytes

-- what a text in quotes says: its bytes between the quotes, where `\"` is a quote and `\\` a `\`
abbrev pub quoted_text : List ℕ → List ℕ
quoted_text text = plain_after false (inside text)

-- whether a token is a text in quotes that begins at this byte
abbrev pub begins_at : ℕ → Token → Bool
begins_at place token = same_kind token.kind Text && (token.start == place)

-- whether tokens go on a string that has ended at this byte: each is a text in quotes that begins where the one before it ends
abbrev pub goes_on : ℕ → List Token → Bool
goes_on place [] = true
goes_on place (token ∷ tokens) = begins_at place token && goes_on token.end tokens

-- Whether tokens are one string. A quote that is written twice stands for one in a string, so a string is one or more texts in quotes with nothing
-- between them.
abbrev pub is_string : List Token → Bool
is_string [] = false
is_string (token ∷ tokens) = same_kind token.kind Text && goes_on token.end tokens

-- what a further text in quotes of a string says: a quote, and what stands in it
abbrev pub further_text : Token → List ℕ
further_text token = 34 ∷ quoted_text token.text

-- What a string says: what stands between its quotes, with `""` as one quote.
abbrev pub string_text : List Token → List ℕ
string_text [] = []
string_text (token ∷ tokens) = quoted_text token.text ++ flat_map further_text tokens

-- ---- other values

-- whether a token is the `::` of a name
abbrev pub is_joint : Token → Bool
is_joint token = is_sign (codes "::") token

-- what stands between a token and the one behind it: a blank, and nothing beside the `::` of a name
abbrev pub gap : Option Token → Token → List ℕ
gap None token = []
gap (Some before) token = cond (is_joint before || is_joint token) [] (32 ∷ [])

-- the texts of tokens behind a token, each with what stands before it
abbrev pub spaced_after : Option Token → List Token → List ℕ
spaced_after before [] = []
spaced_after before (token ∷ tokens) = gap before token ++ token.text ++ spaced_after (Some token) tokens

-- The texts of tokens with one blank between them, and none beside the `::` of a name.
abbrev pub spaced : List Token → List ℕ
spaced tokens = spaced_after None tokens

-- What tokens say that are no list: of one string what it says, and of all others their texts.
abbrev pub item_text : List Token → List ℕ
item_text tokens = cond (is_string tokens) (string_text tokens) (spaced tokens)

-- ---- lists

-- an item of a list ends at a comma and at the bracket that closes the list
unfoldable pub ends_item : Option Token → Token → Bool
ends_item before token = closes token || is_sign (codes ",") token

-- balanced tokens without a comma
unfoldable pub item : Rule (List Token)
item = until ends_item

-- "," item
unfoldable pub further_item : Rule (List Token)
further_item = do
  _ ← sign (codes ",")
  item

-- item { "," item }
unfoldable pub items : Rule (List (List Token))
items = do
  first ← item
  parts_after (first ∷ []) (is_sign (codes ",") ∷ []) further_item

-- "(" item { "," item } ")", and nothing behind it
unfoldable pub list_value : Rule (List (List Token))
list_value = do
  _ ← sign (codes "(")
  its_items ← items
  _ ← sign (codes ")")
  _ ← ends
  gives its_items

-- the value of a reading, if there is one
abbrev pub value_in : {A : Type 0} → Outcome A → Option A
value_in (read value rest unseen) = Some value
value_in (dead unseen) = None

-- The items of a list as which these tokens read, if they read so.
abbrev pub list_items : List Token → Option (List (List Token))
list_items tokens = value_in (run 0 list_value tokens (suc (length tokens)))

-- texts with `; ` between them
abbrev pub joined : List (List ℕ) → List ℕ
joined [] = []
joined (text ∷ texts) = text ++ flat_map (λ other. codes "; " ++ other) texts

-- what a list of items says, and of other tokens what they say
abbrev pub said : List Token → Option (List (List Token)) → List ℕ
said tokens None = item_text tokens
said tokens (Some its_items) = joined (map item_text its_items)

-- What a value says: of a list what its items say, with `; ` between them; of one string what stands between its quotes; of `Set::Name` its words
-- without blanks; and of anything else its tokens with one blank between them. Words stand as tokens have them, in lower case.
abbrev pub value_text : List Token → List ℕ
value_text tokens = said tokens (list_items tokens)
