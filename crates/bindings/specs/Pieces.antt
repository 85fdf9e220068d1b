-- The pieces of a `properties` section of core text: each ends with a semicolon that is in no brackets.
use Rattle.std.specs.Prelude.{Bool, ◌&&◌, if◌then◌else◌, List, [], ◌∷◌, ◌++◌, codes}
use Rattle.aadl_syntax.specs.declared.token.Token.{Token}
use Rattle.grammar_rules.specs.Spans.{is_even}
use Rattle.grammar_rules.specs.Tokens.{is_sign}

-- Whether a token ends the piece that begins with these tokens: a semicolon, where as many brackets were opened as closed.
-- The depth may fall below zero, and a semicolon does not count there.
abbrev pub ends_piece : List Token → Token → Bool
ends_piece passed token = is_even passed && is_sign (codes ";") token

-- the pieces of these tokens, before which those that are passed begin a piece
abbrev pub pieces_after : List Token → List Token → List (List Token)
pieces_after passed [] = []
pieces_after passed (token ∷ tokens) =
    if ends_piece passed token then (passed ++ token ∷ []) ∷ pieces_after [] tokens else pieces_after (passed ++ token ∷ []) tokens

-- The pieces of the tokens of a section, one after the other. What stands behind the last semicolon of this sort is none.
abbrev pub section_pieces : List Token → List (List Token)
section_pieces tokens = pieces_after [] tokens

-- What stands behind the first opening brace of these tokens; nothing where there is none.
abbrev pub behind_brace : List Token → List Token
behind_brace [] = []
behind_brace (token ∷ tokens) = if is_sign (codes "{") token then tokens else behind_brace tokens
