-- Runs of tokens that are read past, and the places that are noted in them.
use Rattle.std.specs.Prelude.{Bool, true, ◌&&◌, ◌||◌, List, [], ◌∷◌, Option, Some, None, codes}
use Rattle.aadl_syntax.specs.declared.token.Token.{Token}
use Rattle.plain_values.specs.declared.spot.Spot.{Spot}
use Rattle.grammar_rules.specs.Rules.{Rule, gives, chooses, ◌>>=◌}
use Rattle.grammar_rules.specs.Spans.{until, closes, ends_balanced, ends_tail, tail_end}
use Rattle.grammar_rules.specs.Tokens.{spot, word, sign, is_word, is_sign, is_one_of}
use Rattle.aadl_parser.specs.Words.{ending_words}

-- whether an item can begin behind this token: the run's first does, and what stands right after a semicolon
abbrev pub begins_item : Option Token → Bool
begins_item None = true
begins_item (Some before) = is_sign (codes ";") before

-- `past` stops at the first word of a section, or `end`, where an item can begin
unfoldable pub ends_past : Option Token → Token → Bool
ends_past before token = begins_item before && is_one_of ending_words token

-- past: the tokens of a section that are read past
unfoldable pub past : Rule (Unit {0})
past = do
  _ ← until ends_past
  gives tt

-- the front of a tail, before the `[` of an array, stops at a `[` too
unfoldable pub ends_front : Option Token → Token → Bool
ends_front before token = closes token || is_sign (codes ";") token || is_sign (codes "[") token

-- the place of a `[`, if it is the next token
unfoldable pub array_place : Rule (Option Spot)
array_place = chooses (is_sign (codes "[") ∷ [])
    (do
      at ← spot
      gives (Some at))
    (gives None)

-- the rest of a tail, from the first `[` at depth 0 in it, and its ";": the place of this `[`, if there is one
unfoldable pub tail_rest : Rule (Option Spot)
tail_rest = do
  array ← array_place
  _ ← tail_end
  gives array

-- tail ";", and the place of the first `[` at depth 0 in it
unfoldable pub array_tail : Rule (Option Spot)
array_tail = do
  _ ← until ends_front
  tail_rest

-- tail ";", whose tokens are kept
unfoldable pub kept_tail : Rule (List Token)
kept_tail = do
  tokens ← until ends_tail
  _ ← sign (codes ";")
  gives tokens

-- the place of a `(`, if it is the next token
unfoldable pub bindings_place : Rule (Option Spot)
bindings_place = chooses (is_sign (codes "(") ∷ [])
    (do
      at ← spot
      gives (Some at))
    (gives None)

-- "(" balanced ")"
unfoldable pub parenthesised : Rule (Unit {0})
parenthesised = do
  _ ← sign (codes "(")
  _ ← until ends_balanced
  sign (codes ")")

-- [ "(" balanced ")" ], with its place
unfoldable pub bindings : Rule (Option Spot)
bindings = chooses (is_sign (codes "(") ∷ [])
    (do
      at ← spot
      _ ← parenthesised
      gives (Some at))
    (gives None)

-- [ "in" "modes" "(" balanced ")" ]
unfoldable pub in_modes : Rule (Unit {0})
in_modes = chooses (is_word (codes "in") ∷ [])
    (do
      _ ← word (codes "in")
      _ ← word (codes "modes")
      parenthesised)
    (gives tt)
