-- Runs of tokens that are read without a look at what they say but for brackets.
use Rattle.std.specs.Prelude.{◌-◌, Bool, true, false, ◌==◌, ◌&&◌, ◌||◌, List, length, Option, count_by, slice_get, codes}
use Rattle.aadl_syntax.specs.declared.token.Token.{Token}
use Rattle.aadl_syntax.specs.declared.token.TokenKind.TheVariants.{AnnexBegin, AnnexEnd}
use Rattle.grammar_rules.specs.Rules.{Test, Rule, spans, ◌>>=◌}
use Rattle.grammar_rules.specs.Tokens.{is_kind, is_sign, is_word, sign}

-- an opening and a closing bracket
unfoldable pub opens : Test
opens token = is_sign (codes "(") token || is_sign (codes "[") token || is_sign (codes "{") token || is_kind AnnexBegin token

unfoldable pub closes : Test
closes token = is_sign (codes ")") token || is_sign (codes "]") token || is_sign (codes "}") token || is_kind AnnexEnd token

-- as many brackets were opened as closed
unfoldable pub is_even : List Token → Bool
is_even passed = count_by opens passed == count_by closes passed

-- the last of some tokens
abbrev pub last : List Token → Option Token
last tokens = slice_get tokens (length tokens - 1)

-- whether a run stops at a token: at depth 0, where the token before it may matter; and inside of an annex also at its end,
-- whatever is open there
abbrev pub stopping : Bool → (Option Token → Token → Bool) → List Token → Token → Bool
stopping inside stops passed token = (inside && is_kind AnnexEnd token) || (is_even passed && stops (last passed) token)

-- the tokens up to the first at which the run stops, in core text: the tokens of an annex count there as any others
unfoldable pub until : (Option Token → Token → Bool) → Rule (List Token)
until stops = spans (stopping false stops)

-- the tokens up to the first at which the run stops, in the text of an annex, which is a text of its own: no run goes past
-- the end of the annex
unfoldable pub until_inside : (Option Token → Token → Bool) → Rule (List Token)
until_inside stops = spans (stopping true stops)

-- `balanced` stops at the bracket that closes what was open before
unfoldable pub ends_balanced : Option Token → Token → Bool
ends_balanced before token = closes token

-- `tail` stops there too, and at a semicolon
unfoldable pub ends_tail : Option Token → Token → Bool
ends_tail before token = closes token || is_sign (codes ";") token

-- `to-end` stops at the word `end`
unfoldable pub ends_to_end : Option Token → Token → Bool
ends_to_end before token = is_word (codes "end") token

-- tail ";"
unfoldable pub tail_end : Rule (Unit {0})
tail_end = do
  _ ← until ends_tail
  sign (codes ";")

-- tail ";" in the text of an annex: a bracket that is open at its end makes the `**}` the dead place
unfoldable pub tail_end_inside : Rule (Unit {0})
tail_end_inside = do
  _ ← until_inside ends_tail
  sign (codes ";")
