-- The sample grammar on a few tokens, by computation.
use Rattle.std.specs.Prelude.{◌≡◌, ℕ, List, [], ◌∷◌, codes, refl}
use Rattle.aadl_syntax.specs.declared.token.Token.{Token}
use Rattle.aadl_syntax.specs.declared.token.TokenKind.{TokenKind}
use Rattle.aadl_syntax.specs.declared.token.TokenKind.TheVariants.{Word, Sign}
use Rattle.grammar_rules.specs.Rules.{Reads}
use Rattle.grammar_rules.specs.Running.{read, dead, run}
use Rattle.grammar_rules.specs.Tokens.{is_word, is_sign, is_identifier, word, sign, identifier}
use Rattle.text_tests.specs.inner.Sample.{reserved, name, further_name, uses}

abbrev token : TokenKind → List ℕ → Token
token kind text = record { kind = kind; start = 0; end = 0; text = text }

abbrev use_word : Token
use_word = token Word (codes "use")

abbrev a_word : Token
a_word = token Word (codes "a")

abbrev end_word : Token
end_word = token Word (codes "end")

abbrev colons : Token
colons = token Sign (codes "::")

abbrev semicolon : Token
semicolon = token Sign (codes ";")

-- `use a ;` reads as the name a
pub reads_one : Reads 0 uses (use_word ∷ a_word ∷ semicolon ∷ []) (codes "a" ∷ []) []
unfolding uses name word sign identifier is_word is_sign is_identifier reserved
reads_one = (
  tt,
  a_word ∷ semicolon ∷ [],
  (use_word, refl, refl),
  (
    codes "a",
    semicolon ∷ [],
    (a_word, refl, refl),
    (
      codes "a" ∷ [],
      semicolon ∷ [],
      ([], semicolon ∷ [], (refl, refl), (refl, refl)),
      (tt, [], (semicolon, refl, refl), (refl, refl)),
    ),
  ),
)

-- the same as a function: all is seen but the end
pub runs_one : run 0 uses (use_word ∷ a_word ∷ semicolon ∷ []) 4 ≡ read (codes "a" ∷ []) [] 1
unfolding uses name further_name word sign identifier is_word is_sign is_identifier reserved
runs_one = refl

-- `use a :: end` is refused, and all is seen but the end: the dead place is the word after the colons
pub runs_dead : run 0 uses (use_word ∷ a_word ∷ colons ∷ end_word ∷ []) 5 ≡ dead 1
unfolding uses name further_name word sign identifier is_word is_sign is_identifier reserved
runs_dead = refl
