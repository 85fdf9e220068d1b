-- What one step of the code does to the tokens so far.
use Rattle.std.specs.Prelude.{◌≡◌, ℕ, ◌+◌, ◌<◌, ◌≤◌, Bool, true, false, ◌==◌, ◌&&◌, List, [], ◌∷◌, ◌++◌, length, take, drop, Option, Some, None}
use Rattle.aadl_syntax.specs.declared.token.Token.{Token}
use Rattle.aadl_syntax.specs.declared.token.TokenKind.{TokenKind}
use Rattle.aadl_syntax.specs.declared.token.TokenKind.TheVariants.{AnnexRaw}
use Rattle.plain_values.specs.declared.refusal.Code.{Code}
use Rattle.aadl_lexer.specs.Tokens.{Piece, IsRead, InAnnex, IsStuck, IsFirstEnd, annex_end}
use Rattle.aadl_syntax.specs.Token.{text_of, token_of}
use Rattle.aadl_syntax.specs.inner.Token.{IsTokenText}

-- The first bytes of the text, so many, are a piece by the rule, and its tokens are added.
pub record Takes (PieceRule : Piece → List ℕ → Type 0) (text : List ℕ) (old new : List Token) (len : ℕ) : Type 0 where
  pub some : 0 < len
  pub within : len ≤ length text
  pub tokens : List Token
  pub added : new ≡ old ++ tokens
  pub piece : PieceRule (record { bytes = take len text; tokens = tokens }) (drop len text)

-- All tokens of the text are added.
pub record TakesAll (PieceRule : List Token → ℕ → Piece → List ℕ → Type 0) (at : ℕ) (text : List ℕ) (old new : List Token) : Type 0 where
  pub tokens : List Token
  pub added : new ≡ old ++ tokens
  pub read : IsRead PieceRule at text tokens []

-- the place where a text cannot go on
abbrev pub StuckAt : Bool → ℕ → List ℕ → Code → ℕ → Type 0
StuckAt annexes at text code place = IsStuck annexes code text × (place ≡ at)

-- The first `**}` of the text stands after so many bytes.
pub record EndsAt (text : List ℕ) (len : ℕ) : Type 0 where
  pub within : len + 3 ≤ length text
  pub whole : text ≡ take len text ++ (annex_end ++ drop (len + 3) text)
  pub first : IsFirstEnd (take len text) (drop (len + 3) text)

-- The tokens of the body of an annex are added.
pub record TakesBody (is_emv2 : Bool) (at : ℕ) (body : List ℕ) (old new : List Token) : Type 0 where
  pub tokens : List Token
  pub added : new ≡ old ++ tokens
  pub inside : is_emv2 ≡ true → IsRead InAnnex at body tokens []
  pub raw : is_emv2 ≡ false → tokens ≡ token_of AnnexRaw at body ∷ []

-- whether `**}` begins the text
abbrev pub begins_annex_end : List ℕ → Bool
begins_annex_end [] = false
begins_annex_end (a ∷ []) = false
begins_annex_end (a ∷ b ∷ []) = false
begins_annex_end (a ∷ b ∷ c ∷ rest) = a == 42 && b == 42 && c == 125

-- The bytes of a token have its text, where they are one.
abbrev pub HasTokenText : Option TokenKind → List ℕ → Type 0
HasTokenText None bytes = Unit {0}
HasTokenText (Some kind) bytes = IsTokenText kind (text_of kind bytes)
