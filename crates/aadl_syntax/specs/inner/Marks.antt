-- The tokens of a file as marks in one text.
use Rattle.std.specs.Prelude.{◌≡◌, ℕ, ◌+◌, ◌-◌, ◌<◌, ◌≤◌, ◌^◌, List, length, map, take}
use Rattle.std.specs.List.{AllByRecursion, between}
use Rattle.aadl_syntax.specs.declared.token.Token.{Token}
use Rattle.aadl_syntax.specs.declared.tokens.Mark.{Mark}
use Rattle.aadl_syntax.specs.inner.Token.{IsTokenText}

-- the text of a mark
abbrev pub text_at : List ℕ → Mark → List ℕ
text_at text mark = between mark.from (mark.from + (mark.end - mark.start)) text

-- the token of a mark
abbrev pub token_at : List ℕ → Mark → Token
token_at text mark = record { kind = mark.kind; start = mark.start; end = mark.end; text = text_at text mark }

-- the tokens of some marks
abbrev pub tokens_at : List ℕ → List Mark → List Token
tokens_at text marks = map (token_at text) marks

-- A mark lies in the text, and its kind may have its text.
pub record IsMark (text : List ℕ) (mark : Mark) : Type 0 where
  pub in_order : mark.start ≤ mark.end
  pub within : mark.from + (mark.end - mark.start) ≤ length text
  pub form : IsTokenText mark.kind (text_at text mark)

-- Each mark lies so in the text.
pub record AreMarks (text : List ℕ) (marks : List Mark) : Type 0 where
  pub each : AllByRecursion (IsMark text) marks
  pub few : length marks < 2 ^ 32
  pub short : length text < 2 ^ 32

-- A text keeps its front, and grows by at most so many bytes.
pub record Grows (old new : List ℕ) (more : ℕ) : Type 0 where
  pub kept : take (length old) new ≡ old
  pub most : length new ≤ length old + more
