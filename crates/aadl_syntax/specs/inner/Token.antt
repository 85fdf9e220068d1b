-- Beside specs/Token.antt: what no clause of `run` reaches.
use Rattle.std.specs.Prelude.{◌≡◌, ℕ, List, [], ◌∷◌, ◌++◌}
use Rattle.aadl_syntax.specs.Form.{IsWord, IsNumber}
use Rattle.plain_values.specs.Name.{folded}
use Rattle.aadl_syntax.specs.declared.token.Token.{Token}
use Rattle.aadl_syntax.specs.declared.token.TokenRef.{TokenRef}
use Rattle.aadl_syntax.specs.declared.token.TokenKind.{TokenKind}
use Rattle.aadl_syntax.specs.declared.token.TokenKind.TheVariants.{Word, Number, Text, Sign, AnnexBegin, AnnexRaw, AnnexEnd}

-- An identifier is the text of a word, with its letters in lower case.
pub record IsIdentifier (text : List ℕ) : Type 0 where
  pub word : IsWord text
  pub lower_case : folded text ≡ text

-- A token of this kind may have this text: a word is an identifier, and a number a number.
abbrev pub IsTokenText : TokenKind → List ℕ → Type 0
IsTokenText Word text = IsIdentifier text
IsTokenText Number text = IsNumber text
IsTokenText Text text = Unit {0}
IsTokenText Sign text = Unit {0}
IsTokenText AnnexBegin text = Unit {0}
IsTokenText AnnexRaw text = Unit {0}
IsTokenText AnnexEnd text = Unit {0}

-- the token that a look at a list of tokens shows
abbrev pub shown : TokenRef → Token
shown token = record { kind = token.kind; start = token.start; end = token.end; text = token.text.now }

-- The tokens end with this one.
pub record EndsWith (tokens : List Token) (token : Token) : Type 0 where
  pub earlier : List Token
  pub whole : tokens ≡ earlier ++ token ∷ []
