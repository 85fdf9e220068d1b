-- Tests of tokens, and the rules that take one token.
use Rattle.std.specs.Prelude.{ℕ, Bool, true, false, not, ◌&&◌, if◌then◌else◌, List, Some, None, bytes_eq}
use Rattle.std.specs.List.{list_any}
use Rattle.plain_values.specs.declared.spot.Spot.{Spot}
use Rattle.aadl_syntax.specs.declared.token.TokenKind.{TokenKind}
use Rattle.aadl_syntax.specs.declared.token.TokenKind.TheVariants.{Word, Number, Text, Sign, AnnexBegin, AnnexRaw, AnnexEnd}
use Rattle.grammar_rules.specs.Rules.{Test, Rule, gives, gives_file, takes, sees, ◌>>=◌}

-- whether two kinds of token are the same
abbrev pub same_kind : TokenKind → TokenKind → Bool
same_kind Word Word = true
same_kind Number Number = true
same_kind Text Text = true
same_kind Sign Sign = true
same_kind AnnexBegin AnnexBegin = true
same_kind AnnexRaw AnnexRaw = true
same_kind AnnexEnd AnnexEnd = true
same_kind _ _ = false

-- a token of this kind
unfoldable pub is_kind : TokenKind → Test
is_kind kind token = same_kind token.kind kind

-- this word
unfoldable pub is_word : List ℕ → Test
is_word text token = same_kind token.kind Word && bytes_eq token.text text

-- this sign
unfoldable pub is_sign : List ℕ → Test
is_sign text token = same_kind token.kind Sign && bytes_eq token.text text

-- a word that is not reserved
unfoldable pub is_identifier : List (List ℕ) → Test
is_identifier reserved token = same_kind token.kind Word && not (list_any (bytes_eq token.text) reserved)

-- one of these words
unfoldable pub is_one_of : List (List ℕ) → Test
is_one_of words token = same_kind token.kind Word && list_any (bytes_eq token.text) words

-- takes a token that passes the test
abbrev pub passing : Test → Rule (Unit {0})
passing test = takes (λ token. if test token then Some tt else None)

-- takes a token of this kind
unfoldable pub kind : TokenKind → Rule (Unit {0})
kind expected = passing (is_kind expected)

-- takes this word
unfoldable pub word : List ℕ → Rule (Unit {0})
word text = passing (is_word text)

-- takes this sign
unfoldable pub sign : List ℕ → Rule (Unit {0})
sign text = passing (is_sign text)

-- takes a word that is not reserved, and gives its text
unfoldable pub identifier : List (List ℕ) → Rule (List ℕ)
identifier reserved = takes (λ token. if is_identifier reserved token then Some token.text else None)

-- takes one of these words, and gives it
unfoldable pub one_of : List (List ℕ) → Rule (List ℕ)
one_of words = takes (λ token. if is_one_of words token then Some token.text else None)

-- where the next token starts: the number of its first byte in the file
unfoldable pub place : Rule ℕ
place = sees (λ token. Some token.start)

-- the place of the next token
unfoldable pub spot : Rule Spot
spot = do
  file ← gives_file
  at ← place
  gives (record { file = file; at = at })
