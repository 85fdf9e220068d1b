-- The text of a token, and the token of some bytes.
use Rattle.std.specs.Prelude.{ℕ, ◌+◌, List, length}
use Rattle.plain_values.specs.Name.{folded}
use Rattle.aadl_syntax.specs.declared.token.Token.{Token}
use Rattle.aadl_syntax.specs.declared.token.TokenKind.{TokenKind}
use Rattle.aadl_syntax.specs.declared.token.TokenKind.TheVariants.{Word}

-- the text of a token: a word is folded, and any other token is as it was written
abbrev pub text_of : TokenKind → List ℕ → List ℕ
text_of Word bytes = folded bytes
text_of _ bytes = bytes

-- the token of these bytes, the first of which is byte `at` of the file
abbrev pub token_of : TokenKind → ℕ → List ℕ → Token
token_of kind at bytes = record { kind = kind; start = at; end = at + length bytes; text = text_of kind bytes }
